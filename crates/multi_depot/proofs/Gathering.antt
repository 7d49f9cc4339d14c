-- The stops set aside, laid behind the rounds once every stop is settled; and the outcome, with one depot or with several. Assumes nothing.
use mathlib.Core.Path.{◌≡◌, sym, ap, ◌∙◌}
use Prim.Native.Nat.{ℕ, ◌+◌, ◌-◌, ◌≤◌}
use native.Mathlib.Omega.{arith}
use mathlib.Core.Bool.{Bool, ◌||◌}
use mathlib.Core.List.{List}
use lib.Dec.{eqb}
use lib.ListN.{length, get_or}
use borrow.Author.Tests.{eq-eqb, ne_eqb}
use Rattle.lists.specs.Laws.Permutation.{same_length}
use Rattle.lists.specs.Laws.Filter.{those_all, those_alike}
use Rattle.wire.specs.Bytes.{write}
use Rattle.wire.specs.Laws.Bytes.{length_write}
use Rattle.sheet.specs.Fields.{rows_of}
use Rattle.sheet.specs.Depots.{depots_of}
use Rattle.sheet.specs.Accepted.{Accepted}
use Rattle.sheet.specs.Stops.{stops_with, all_stops}
use Rattle.sheet.specs.Laws.Stops.{all_once}
use Rattle.constructive.specs.declared.tables.Filled.{Filled}
use Rattle.constructive.specs.Outcome.{Outcome, stops_of}
use Rattle.constructive.specs.Members.{part}
use Rattle.constructive.specs.Laws.Stored.{length_chains}
use Rattle.constructive.specs.TableContents.{HoldsOutcome}
use Rattle.constructive.specs.Laws.TableContents.{holds_behind, held_outcome, held_tables}
use Rattle.constructive.specs.Marks.{Marks}
use Rattle.constructive.specs.Laws.Marks.{marked_aside}
use Rattle.multi_depot_offers.specs.ByDepot.{is_no_depot, planned_of, planned_at, left_out, gathered, by_depot, outcome_of}
use Rattle.multi_depot_offers.specs.Laws.Once.{gathered_once}
use Rattle.multi_depot_offers.specs.Laws.Rounds.{outcome_right_lem, rounds_few}
use Rattle.multi_depot_offers.specs.Promises.{aside_by_marks, Planned}
use Rattle.multi_depot_planning.proofs.Sharing.{part_there}
use Rattle.multi_depot_settling.specs.Promises.{Untouched}
use Rattle.multi_depot.specs.Promises.{OutcomeStored}

-- ---- the stops set aside
aside_is : (s at marks aside : List ℕ) → Marks s marks aside → aside_by_marks s at marks ≡ stops_with s (left_out s at aside)
unfolding aside_by_marks
aside_is s at marks aside m =
    those_alike (λ c. is_no_depot s (get_or at c 0) || eqb (get_or marks c 0) 1) (left_out s at aside) (rows_of s - depots_of s) (depots_of s)
    (λ c l u. ap (λ (b : Bool). is_no_depot s (get_or at c 0) || b) (marked_aside s marks aside m c (omega arith)))

gathered_long : (s at : List ℕ) → length (stops_of (gathered s at)) ≡ rows_of s - depots_of s
gathered_long s at =
    same_length (stops_of (gathered s at)) (all_stops s) (λ x. gathered_once s at x ∙ sym (all_once s x)) ∙ those_all (rows_of s - depots_of s) (depots_of s)

pub planned_still : {s at marks stops ends vehicles at' marks' stops' ends' vehicles' : List ℕ} {f : Filled} → Untouched at marks stops ends vehicles at' marks' stops' ends' vehicles' → Planned s marks stops ends vehicles f (planned_at s at) → Planned s marks' stops' ends' vehicles' f (planned_at s at')
planned_still u p = rw (u.stayed, u.marked, u.stopped, u.ended, u.driven) p

module _ {s : List ℕ} (at : List ℕ) {marks stops ends vehicles : List ℕ} {f : Filled} (p : Planned s marks stops ends vehicles f (planned_at s at)) (long : rows_of s ≤ length stops) where
  abbrev o : Outcome
  o = gathered s at

  aside_so : aside_by_marks s at marks ≡ o.aside
  unfolding gathered
  aside_so = aside_is s at marks (planned_at s at).aside p.turned

  counted : f.routed + length (aside_by_marks s at marks) ≡ rows_of s - depots_of s
  unfolding gathered
  counted = rw aside_so (omega (arith, p.holds.routed, gathered_long s at, length_chains o.rounds o.aside))

  pub room_aside : f.routed + length (aside_by_marks s at marks) ≤ length stops
  room_aside = omega (arith, counted)

  pub gathered_held : {stops' : List ℕ} → stops' ≡ write stops f.routed (aside_by_marks s at marks) → HoldsOutcome stops' ends vehicles f (rows_of s - depots_of s) o
  unfolding gathered
  gathered_held e = rw e (record {
    holds = holds_behind stops ends vehicles f o.rounds p.holds (aside_by_marks s at marks) room_aside;
    from = omega (arith, counted);
    within = omega (arith, counted, room_aside, length_write stops f.routed (aside_by_marks s at marks) room_aside);
    aside = ap (part (write stops f.routed (aside_by_marks s at marks)) f.routed) (sym counted) ∙ part_there stops f.routed (aside_by_marks s at marks) room_aside ∙ aside_so;
  })

-- ---- either
pub told : (s stops ends vehicles : List ℕ) (f : Filled) (o : Outcome) → Accepted s → outcome_of s ≡ o → HoldsOutcome stops ends vehicles f (rows_of s - depots_of s) o → OutcomeStored s stops ends vehicles f (outcome_of s)
told s stops ends vehicles f o a e h =
    let k : HoldsOutcome stops ends vehicles f (rows_of s - depots_of s) (outcome_of s) = rw e h in
    record {
      tables = held_tables stops ends vehicles f (rows_of s - depots_of s) (outcome_of s) k s a (outcome_right_lem s) (rounds_few s);
      outcome = held_outcome stops ends vehicles f (rows_of s - depots_of s) (outcome_of s) k;
    }

pub outcome_one : (s : List ℕ) → depots_of s ≡ 1 → outcome_of s ≡ planned_of s 0 (all_stops s)
unfolding outcome_of
outcome_one s e = rw (eq-eqb (depots_of s) 1 e)

pub outcome_several : (s : List ℕ) → (depots_of s ≡ 1 → ⊥) → outcome_of s ≡ by_depot s
unfolding outcome_of
outcome_several s e = rw (ne_eqb (depots_of s) 1 e)
