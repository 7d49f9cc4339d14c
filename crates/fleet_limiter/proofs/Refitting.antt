-- The loop over the choices: a stop is put into a round, or none can be. Assumes nothing.
use Rattle.std.specs.Prelude.{Some, None}
use mathlib.Core.Path.{◌≡◌, refl, sym, ap, ◌∙◌, subst}
use Prim.Native.Nat.{ℕ, zero, suc, ◌+◌, ◌≤◌, ◌<◌}
use native.Mathlib.Omega.{arith}
use mathlib.Core.Bool.{Bool}
use mathlib.Core.List.{List}
use lib.ListN.{length, drop}
use lib.Ieee.{Float}
use Rattle.lists.specs.Moved.{without}
use Rattle.lists.specs.Laws.Moved.{without_length}
use Rattle.constructive.specs.Outcome.{Outcome, start_in, outcome_in, round_at}
use Rattle.constructive.specs.Tables.{Tables}
use Rattle.constructive.specs.Laws.TableContents.{held_outcome}
use Rattle.fleet.specs.Pick.{Pick}
use Rattle.fleet.specs.Cheapest.{pick_of}
use Rattle.fleet.specs.Limit.{Refit, refit_by, refit, refit_on}
use Rattle.fleet.specs.Laws.Bounds.{Picked, pick_picked}
use Rattle.fleet_tables.specs.Promises.{TablesOf, taken_in, Enters}
use Rattle.fleet_tables.specs.Laws.Places.{total_long}
use Rattle.fleet_tables.specs.Laws.Standing.{tables_sound, sound_tables, in_sound}
use Rattle.fleet_limiter.specs.Promises.{TablesHold, pending_first, set_down, refit_outcome}
use Rattle.fleet_limiter.proofs.Choosing.{whole, held}

-- ---- the definition
refit_by_lem : (s : List ℕ) (soft : Bool) (x : Refit) (p : Pick) → p ≡ pick_of s soft x.rounds x.pending → refit s soft x ≡ refit_by x p
unfolding refit
refit_by_lem s soft x p e = ap (refit_by x) (sym e)

-- where nothing is picked, nothing changes any more
at_rest : (s : List ℕ) (soft : Bool) (x : Refit) → None ≡ pick_of s soft x.rounds x.pending → (n : ℕ) → refit_on s soft n x ≡ x
unfolding refit_on
at_rest s soft x e zero = refl
at_rest s soft x e (suc n) = ap (refit_on s soft n) (refit_by_lem s soft x None e) ∙ at_rest s soft x e n

-- ---- the loop
pub record Refitting (s : List ℕ) (soft : Bool) (stops₀ ends₀ vehicles₀ : List ℕ) (n total : ℕ) (stops ends vehicles : List ℕ) : Type 0 where
  pub tables : Tables s stops ends vehicles n total
  pub behind : drop total stops ≡ drop total stops₀
  pub same : refit_outcome s soft (pending_first (outcome_in stops ends vehicles n total)) ≡ refit_outcome s soft (pending_first (outcome_in stops₀ ends₀ vehicles₀ n total))

module _ {s : List ℕ} {soft : Bool} {stops₀ ends₀ vehicles₀ : List ℕ} {n total : ℕ} {stops ends vehicles : List ℕ} (g : Refitting s soft stops₀ ends₀ vehicles₀ n total stops ends vehicles) {p : Pick}
    (told : p ≡ pick_of s soft (outcome_in stops ends vehicles n total).rounds (outcome_in stops ends vehicles n total).aside) where
  abbrev o : Outcome
  o = whole g.tables

  tabled : TablesOf stops ends vehicles n total o
  tabled = held g.tables

  -- no stop is picked: the outcome stays
  pub rests : p ≡ None → TablesHold s stops ends vehicles n total (refit_outcome s soft (pending_first (outcome_in stops₀ ends₀ vehicles₀ n total)))
  rests e =
      let z = at_rest s soft (pending_first o) (sym e ∙ told) (length o.aside) in
      record { tables = g.tables; outcome = sym (ap set_down z) ∙ g.same }

  -- a stop is picked, and put in
  module _ {j i k : ℕ} {cost : Float} (e : p ≡ Some (j, i, k, cost)) where
    place : Picked s soft o.rounds o.aside (Some (j, i, k, cost))
    place = subst (Picked s soft o.rounds o.aside) (sym told ∙ e) (pick_picked s soft o.rounds o.aside)

    pub enters : Enters stops ends n i k j
    enters = record {
      vehicles = vehicles;
      total = total;
      outcome = o;
      held = tabled;
      few = g.tables.most;
      round = omega (arith, tabled.holds.count, place.1.round);
      place = place.1.place;
      from = place.0;
    }

    -- it stands before those that stay
    before_those : start_in ends n + j < total
    before_those = omega (arith, place.0, total_long stops ends vehicles n total o tabled, tabled.holds.routed)

    module _ {stops' ends' vehicles' : List ℕ} (put : (v : List ℕ) (t : ℕ) (q : Outcome) → TablesOf stops ends v n t q → k ≤ length (round_at q.rounds i).stops → j < length q.aside → TablesOf stops' ends' v n t (taken_in j i k q))
        (driven : vehicles' ≡ vehicles) where
      after : TablesOf stops' ends' vehicles' n total (taken_in j i k o)
      after = rw driven (put vehicles total o tabled place.1.place place.0)

      after_outcome : outcome_in stops' ends' vehicles' n total ≡ taken_in j i k o
      after_outcome = held_outcome stops' ends' vehicles' (record { rounds = n; routed = start_in ends' n }) total (taken_in j i k o) after

      pub fewer : length (outcome_in stops' ends' vehicles' n total).aside < length (outcome_in stops ends vehicles n total).aside
      fewer = rw after_outcome (omega (arith, without_length o.aside j place.0))

      pub goes_on : ((m : ℕ) → start_in ends n + j < m → drop m stops' ≡ drop m stops) → Refitting s soft stops₀ ends₀ vehicles₀ n total stops' ends' vehicles'
      unfolding refit_on
      goes_on kept = record {
        tables = sound_tables s stops' ends' vehicles' n total (taken_in j i k o) after (in_sound s o (tables_sound s stops ends vehicles n total g.tables) j i k place.0) g.tables.sheet g.tables.few g.tables.most;
        behind = kept total before_those ∙ g.behind;
        same =
            ap (λ (q : Outcome). refit_outcome s soft (pending_first q)) after_outcome
            ∙ ap (λ (x : Refit). set_down (refit_on s soft (length (without j o.aside)) x)) (sym (refit_by_lem s soft (pending_first o) (Some (j, i, k, cost)) (sym e ∙ told)))
            ∙ ap (λ (c : ℕ). set_down (refit_on s soft c (pending_first o))) (without_length o.aside j place.0)
            ∙ g.same;
      }
