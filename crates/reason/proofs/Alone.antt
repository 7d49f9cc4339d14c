-- A lone round: it may be walked, and what is told of it by its schedule. Assumes nothing.
use Rattle.std.specs.Prelude.{◌≡◌, refl, ℕ, zero, suc, ◌<◌, true, false, not, List, [], ◌∷◌, Some, None, get_or}
use Rattle.std.proofs.Common.{sym, ap, ◌∙◌, arith}
use Rattle.sheet.specs.Fields.{rows_of}
use Rattle.sheet.specs.Values.{vehicle_of}
use Rattle.sheet.specs.Accepted.{Accepted}
use Rattle.sheet.specs.declared.vehicle.Vehicle.{Vehicle}
use Rattle.evaluation_clock.specs.declared.clock.Schedule.{Schedule}
use Rattle.evaluation.specs.Routed.{Routed}
use Rattle.evaluation.specs.Limits.{limits_at, within_of, allow_of}
use Rattle.evaluation.specs.Verdict.{is_feasible}
use Rattle.evaluation.specs.Laws.Verdict.{held_none, held_passes}
use Rattle.reason.specs.Reason.{without_maxima, no_rest_place, without_max_distance, over_duration}
use Rattle.reason.specs.Asked.{Lone}
use Rattle.reason.specs.Told.{DecidesLone}

pub alone : {s : List ℕ} {depot index row : ℕ} → Accepted s → Lone s depot index row → Routed s depot (row ∷ [])
alone {s} {depot} {index} {row} a l = record { sheet = a; home = l.home; few = omega arith; row = stops }
  where
    stops : (k : ℕ) → k < 1 → get_or (row ∷ []) k 0 < rows_of s
    stops zero h = l.stop
    stops (suc k) h = absurd (omega arith)

-- the greatest distance is the vehicle's own
pub own_distance : (s : List ℕ) (v : ℕ) (vehicle : Vehicle) → vehicle ≡ vehicle_of s v → vehicle.max_distance ≡ (limits_at s v).max_distance
unfolding limits_at
own_distance s v vehicle e = ap (λ (u : Vehicle). u.max_distance) e

-- ---- what is told of a lone round by the schedule that decides it
module _ (s : List ℕ) (d v i : ℕ) where
  -- there is none
  pub none_unplaced : DecidesLone s d i (limits_at s v) None → no_rest_place s d v i ≡ true
  unfolding no_rest_place
  none_unplaced f = let l = without_maxima (limits_at s v) in ap not (sym (f l refl refl) ∙ ap is_feasible (held_none l))

  module _ (k : Schedule) (f : DecidesLone s d i (limits_at s v) (Some k)) where
    -- without maxima every schedule is allowed
    pub some_placed : no_rest_place s d v i ≡ false
    unfolding no_rest_place allow_of
    some_placed = let l = without_maxima (limits_at s v) in ap not (sym (f l refl refl) ∙ held_passes l k)

    -- without the greatest distance only how long it takes is asked
    pub some_lasts : over_duration s d v i ≡ not (within_of (limits_at s v).max_duration k.duration)
    unfolding over_duration allow_of
    some_lasts = let l = without_max_distance (limits_at s v) in ap not (sym (f l refl refl) ∙ held_passes l k)
