-- The sweep in the tables: the rounds closed, the one being filled, the stops not met yet, and those set aside stand one after another.
use Rattle.std.specs.Prelude.{◌≡◌, ℕ, ◌+◌, ◌-◌, ◌≤◌, ◌<◌, Bool, true, false, List, [], ◌∷◌, ◌++◌, get_or}
use Rattle.wire.specs.Bytes.{write}
use Rattle.sheet.specs.Values.{demand_of}
use Rattle.constructive.specs.declared.terms.Terms.{Terms}
use Rattle.constructive.specs.Load.{load_of}
use Rattle.constructive.specs.Members.{part}
use Rattle.sweep.specs.declared.rounds.Packing.{Packing}
use Rattle.sweep.specs.Sweep.{unservable, closes}

-- the round that is being filled, and the next stop, right behind it
abbrev pub open_route : List ℕ → Packing → List ℕ
open_route stops p = part stops p.filled.routed p.end

abbrev pub next_in : List ℕ → Packing → ℕ
next_in stops p = get_or stops p.end 0

-- with a stop to meet
pub record Midway (s stops : List ℕ) (p : Packing) (total : ℕ) : Type 0 where
  pub from : p.filled.routed ≤ p.end
  pub next : p.end < p.mid
  pub within : p.mid ≤ total
  pub load : p.load ≡ load_of s (open_route stops p)

-- ---- a stop met, by whether it is set aside, and by whether the round closes before it
-- it asks d
abbrev pub packed_by : Bool → Bool → Packing → ℕ → Packing
packed_by true c p d = record { filled = p.filled; end = p.end; load = p.load; mid = p.mid - 1 }
packed_by false true p d = record { filled = record { rounds = p.filled.rounds + 1; routed = p.end }; end = p.end + 1; load = d; mid = p.mid }
packed_by false false p d = record { filled = p.filled; end = p.end + 1; load = p.load + d; mid = p.mid }

-- set aside, it goes behind those up to `total`
abbrev pub stops_by : Bool → List ℕ → ℕ → ℕ → List ℕ
stops_by true stops at total = write stops at (part stops (at + 1) total ++ (get_or stops at 0 ∷ []))
stops_by false stops at total = stops

-- a round closed is an entry more
abbrev pub entries_by : Bool → Bool → List ℕ → ℕ → ℕ → List ℕ
entries_by true c table k x = table
entries_by false true table k x = write table k (x ∷ [])
entries_by false false table k x = table

-- the tables before, how far they were packed, the tables after
pub record Met (s : List ℕ) (t : Terms) (total : ℕ) (stops ends vehicles : List ℕ) (p : Packing) (stops' ends' vehicles' : List ℕ) (p' : Packing) : Type 0 where
  pub packed : p' ≡ packed_by (unservable s t (next_in stops p)) (closes s t (open_route stops p) (next_in stops p)) p (demand_of s (next_in stops p))
  pub stopped : stops' ≡ stops_by (unservable s t (next_in stops p)) stops p.end total
  pub ended : ends' ≡ entries_by (unservable s t (next_in stops p)) (closes s t (open_route stops p) (next_in stops p)) ends p.filled.rounds p.end
  pub driven : vehicles' ≡ entries_by (unservable s t (next_in stops p)) (closes s t (open_route stops p) (next_in stops p)) vehicles p.filled.rounds t.vehicle
