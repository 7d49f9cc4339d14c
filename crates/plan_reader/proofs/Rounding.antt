-- The loop over the rounds: the chains so far, with those that are left, are all of the plan's. Assumes nothing.
use Rattle.std.specs.Prelude.{ℕ}
use mathlib.Core.Path.{◌≡◌, refl, sym, ap, ◌∙◌, subst}
use Prim.Native.Nat.{ℕ, zero, suc, ◌+◌, ◌-◌, ◌≤◌, ◌<◌}
use native.Mathlib.Numerals.{add-one}
use native.Mathlib.Omega.{arith}
use mathlib.Core.Bool.{Bool, true, false}
use mathlib.Core.List.{List, ◌++◌, append_assoc}
use lib.Dec.{T, eqb}
use lib.ListN.{length, get_or, take, set, length-append}
use lib.Seq.{get_or-set_same, get_or-set_other}
use borrow.Author.Tests.{eqb-true, eqb-false}
use Rattle.sheet.specs.Fields.{rows_of, vehicles_of}
use Rattle.sheet.specs.Fleet.{index_of}
use Rattle.constructive.specs.Outcome.{start_in, chains, stops_of}
use Rattle.constructive.specs.Tables.{AsLong}
use Rattle.constructive.specs.Right.{links_right}
use Rattle.plan.specs.Read.{rounds_at, aside_at, id_at, first_stop_at, chain_of, rounds_from, read_plan, plan_right}
use Rattle.plan_reader.specs.Reading.{stop_count, ReaderTables}
use Rattle.plan_reader.specs.Chains.{Followed, RoundRead, RoundsRead}
use Rattle.plan_reader.specs.Laws.Links.{links_front}
use Rattle.plan_reader.specs.Laws.Tally.{once_length}
use Rattle.plan_reader.specs.Laws.Right.{wrong}
use Rattle.plan_reader.proofs.Splitting.{part_kept, reaches, keeps, lies}

-- ---- a chain that breaks is no right plan's
pub breaks : (s plan rows rest : List ℕ) → stops_of (read_plan s plan) ≡ rows ++ rest → (T (links_right s rows) → stop_count s < length rows) → plan_right s plan ≡ false
breaks s plan rows rest e f =
    wrong s plan (λ r.
    let l = once_length s (stops_of (read_plan s plan)) r.links r.once in
    let k = length-append rows rest in
    let m = ap length e in
    let h = f (links_front s rows rest (subst (λ (x : List ℕ). T (links_right s x)) e r.links)) in
    omega arith)

pub begins : (s plan stops ends vehicles : List ℕ) → RoundsRead s plan stops ends vehicles 0 0
unfolding read_plan links_right
begins s plan stops ends vehicles = let e : rounds_at plan - 0 ≡ rounds_at plan = omega arith in record {
  few = omega arith;
  place = refl;
  room = omega arith;
  read = λ j h. absurd (omega arith);
  links = tt;
  whole = rw e;
}

-- a round that was read stays so where the tables keep what it says
pub round_kept : (s plan : List ℕ) {stops ends vehicles after ends' vehicles' : List ℕ} {at end j : ℕ} → RoundRead s plan stops ends vehicles at j
    → get_or ends' j 0 ≡ get_or ends j 0
    → start_in ends' j ≡ start_in ends j
    → get_or vehicles' j 0 ≡ get_or vehicles j 0
    → at ≤ end
    → at ≤ length stops
    → at ≤ length after
    → take at after ≡ take at stops
    → RoundRead s plan after ends' vehicles' end j
round_kept s plan {stops} {ends} {vehicles} {after} {ends'} {vehicles'} {at} {end} {j} r e b v on here there t = record {
  index = v ∙ r.index;
  known = rw v r.known;
  from = rw (e, b) r.from;
  to = rw e (omega (arith, r.to));
  chain = rw (e, b) (part_kept (start_in ends j) (get_or ends j 0) at stops after r.from r.to here there t ∙ r.chain);
}

start_kept : (ends : List ℕ) (k end j : ℕ) → j ≤ k → start_in (set ends k end) j ≡ start_in ends j
start_kept ends k end zero h = refl
start_kept ends k end (suc j) h = get_or-set_other ends k j end 0 (λ e. omega arith)

module _ {s plan stops ends vehicles : List ℕ} {k at : ℕ} (g : RoundsRead s plan stops ends vehicles k at) (more : k < rounds_at plan) where
  abbrev rows : List ℕ
  rows = take at stops ++ chain_of s plan (first_stop_at plan k)

  abbrev left : List ℕ
  left = chains (rounds_from s plan (rounds_at plan - (k + 1)) (k + 1)) (chain_of s plan (aside_at plan))

  whole : stops_of (read_plan s plan) ≡ rows ++ left
  unfolding rounds_from chains
  whole =
      let e : rounds_at plan - k ≡ suc (rounds_at plan - (k + 1)) = omega arith in
      g.whole
      ∙ ap (λ (n : ℕ). take at stops ++ chains (rounds_from s plan n k) (chain_of s plan (aside_at plan))) e
      ∙ sym (append_assoc (take at stops) (chain_of s plan (first_stop_at plan k)) left)

  pub unknown : (index : ℕ) → index ≡ index_of s (id_at plan k) → vehicles_of s ≤ index → plan_right s plan ≡ false
  unknown index e h = wrong s plan (λ r. let l = r.known k more in omega arith)

  pub broken : (T (links_right s rows) → stop_count s < length rows) → plan_right s plan ≡ false
  broken f = breaks s plan rows left whole f

  module _ (after : List ℕ) (end index : ℕ) (f : Followed s rows after end) (size : rows_of s ≤ length stops) (long : length after ≡ length stops) (ended : k < length ends) (fleet : k < length vehicles) where
    here : at ≤ length stops
    here = omega (arith, g.room)

    there : end ≤ length after
    there = omega (arith, f.room)

    on : at ≤ end
    on = let e = reaches stops after (chain_of s plan (first_stop_at plan k)) at end here there f.same in omega arith

    -- a round that was read before stays
    kept : (j : ℕ) → j < k → RoundRead s plan after (set ends k end) (set vehicles k index) end j
    kept j h =
        round_kept s plan (g.read j h) (get_or-set_other ends k j end 0 (λ q. omega arith)) (start_kept ends k end j (omega arith)) (get_or-set_other vehicles k j index 0 (λ q. omega arith)) on here (omega (arith, on, there))
        (keeps stops after (chain_of s plan (first_stop_at plan k)) at end here there f.same)

    -- the round that is read
    new : index ≡ index_of s (id_at plan k) → index < vehicles_of s → RoundRead s plan after (set ends k end) (set vehicles k index) end k
    new i h =
        let e = get_or-set_same ends k end 0 ended in
        let v = get_or-set_same vehicles k index 0 fleet in
        let b = start_kept ends k end k (omega arith) ∙ sym g.place in
        record {
          index = v ∙ i;
          known = rw v h;
          from = rw (e, b) on;
          to = rw e (omega arith);
          chain = rw (e, b) (lies stops after (chain_of s plan (first_stop_at plan k)) at end here there f.same);
        }

    pub goes_on : index ≡ index_of s (id_at plan k) → index < vehicles_of s → RoundsRead s plan after (set ends k end) (set vehicles k index) (k + 1) end
    goes_on i h = record {
      few = omega arith;
      place = rw (add-one k) (sym (get_or-set_same ends k end 0 ended));
      room = f.room;
      read = λ j l. go j l (eqb j k) refl;
      links = subst (λ (x : List ℕ). T (links_right s x)) f.same f.links;
      whole = whole ∙ ap (λ (x : List ℕ). x ++ left) f.same;
    }
      where
        go : (j : ℕ) → j < k + 1 → (b : Bool) → eqb j k ≡ b → RoundRead s plan after (set ends k end) (set vehicles k index) end j
        go j l true e = rw (eqb-true j k e) (new i h)
        go j l false e = kept j (omega (arith, eqb-false j k e))

-- ---- tables that are as long as they were
pub lent : {s plan stops₀ ends₀ vehicles₀ stops ends vehicles : List ℕ} → ReaderTables s plan stops₀ ends₀ vehicles₀ → AsLong stops₀ ends₀ vehicles₀ stops ends vehicles → ReaderTables s plan stops ends vehicles
lent l a = record { sheet = l.sheet; planned = l.planned; rows = rw a.stopped l.rows; ended = rw a.ended l.ended; fleet = rw a.driven l.fleet }
