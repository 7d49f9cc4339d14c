-- A stop met: what its tests ask, and what becomes of it. Assumes nothing.
use mathlib.Core.Path.{◌≡◌, sym, ◌∙◌}
use Prim.Native.Nat.{ℕ, ◌+◌, ◌-◌, ◌≤◌, ◌<◌}
use native.Mathlib.Omega.{arith}
use mathlib.Core.Bool.{Bool, true, false}
use mathlib.Core.List.{List, [], ◌∷◌, ◌++◌}
use lib.ListN.{length}
use Rattle.wire.specs.Bytes.{write}
use Rattle.sheet.specs.Fields.{rows_of}
use Rattle.sheet.specs.Values.{demand_of}
use Rattle.evaluation.specs.Routed.{Routed}
use Rattle.constructive.specs.declared.tables.Filled.{Filled}
use Rattle.constructive.specs.declared.terms.Terms.{Terms}
use Rattle.constructive.specs.Load.{load_of}
use Rattle.constructive.specs.Members.{part, Members}
use Rattle.sweep.specs.declared.rounds.Packing.{Packing}
use Rattle.sweep.specs.Sweep.{unservable, closes}
use Rattle.sweep.specs.Met.{open_route, next_in, Midway, Met}
use Rattle.sweep.proofs.Parts.{last_row, routed_part, carried}

-- ---- what the tests ask
module _ (s stops : List ℕ) (depot : ℕ) (p : Packing) (total : ℕ) (ok : Members s depot stops p.filled.routed total) (w : Midway s stops p total) where
  inside : p.end < length stops
  inside = omega (arith, ok.within, w.next, w.within)

  longer : Routed s depot (part stops p.filled.routed (p.end + 1))
  longer = routed_part s depot stops p.filled.routed total p.filled.routed (p.end + 1) ok (omega arith) (omega (arith, w.from)) (omega (arith, w.next, w.within))

  pub next_row : next_in stops p < rows_of s
  next_row = last_row stops p.filled.routed p.end w.from s depot inside longer

  module _ (d : ℕ) (u : d ≡ demand_of s (next_in stops p)) where
    pub alone_asks : Routed s depot (part stops p.end (p.end + 1)) × ((p.end < length stops) × (d ≡ demand_of s (next_in stops p)))
    alone_asks = (routed_part s depot stops p.filled.routed total p.end (p.end + 1) ok w.from (omega arith) (omega (arith, w.next, w.within)), (inside, u))

    pub closing_asks : Routed s depot (part stops p.filled.routed (p.end + 1)) × (((p.filled.routed ≤ p.end) × (p.end < length stops)) × (p.load + d ≡ load_of s (open_route stops p) + demand_of s (next_in stops p)))
    closing_asks = (longer, ((w.from, inside), omega (arith, w.load, u)))

    pub load_fits : p.load + d ≤ 101000000
    load_fits = omega (arith, carried s depot stops p.filled.routed p.end w.from inside longer, w.load, u)

-- ---- what becomes of the stop
module _ (s : List ℕ) (t : Terms) (total : ℕ) (stops ends vehicles : List ℕ) (p : Packing) (h : Bool) (e : h ≡ unservable s t (next_in stops p)) where
  pub goes_aside : h ≡ true → (stops' : List ℕ) → stops' ≡ write stops p.end (part stops (p.end + 1) total ++ (next_in stops p ∷ []))
      → Met s t total stops ends vehicles p stops' ends vehicles (record { filled = p.filled; end = p.end; load = p.load; mid = p.mid - 1 })
  goes_aside f stops' q =
      let y : unservable s t (next_in stops p) ≡ true = sym e ∙ f in
      record { packed = rw y; stopped = rw y q; ended = rw y; driven = rw y }

  module _ (f : h ≡ false) (c : Bool) (g : c ≡ closes s t (open_route stops p) (next_in stops p)) (d : ℕ) (u : d ≡ demand_of s (next_in stops p)) where
    y : unservable s t (next_in stops p) ≡ false
    y = sym e ∙ f

    pub begins_round : c ≡ true → (ends' vehicles' : List ℕ) (closed : Filled) → closed ≡ record { rounds = p.filled.rounds + 1; routed = p.end } → ends' ≡ write ends p.filled.rounds (p.end ∷ []) → vehicles' ≡ write vehicles p.filled.rounds (t.vehicle ∷ [])
        → Met s t total stops ends vehicles p stops ends' vehicles' (record { filled = closed; end = p.end + 1; load = d; mid = p.mid })
    begins_round x ends' vehicles' closed k q r =
        let z : closes s t (open_route stops p) (next_in stops p) ≡ true = sym g ∙ x in
        record { packed = rw (y, z, k, u); stopped = rw y; ended = rw (y, z) q; driven = rw (y, z) r }

    pub joins_round : c ≡ false → Met s t total stops ends vehicles p stops ends vehicles (record { filled = p.filled; end = p.end + 1; load = p.load + d; mid = p.mid })
    joins_round x =
        let z : closes s t (open_route stops p) (next_in stops p) ≡ false = sym g ∙ x in
        record { packed = rw (y, z, u); stopped = rw y; ended = rw (y, z); driven = rw (y, z) }
