-- docs/SCOPE.md#why-a-stop-is-set-aside. The reasons by their numbers, and the notions of the functions.
use Rattle.std.specs.Prelude.{◌≡◌, ℕ, ◌+◌, ◌-◌, ◌<◌, List, [], ◌∷◌, Option, Some, None, MatchOption, eqb}
use Rattle.lists.specs.Filter.{filtered}
use Rattle.sheet.specs.Fields.{vehicles_of}
use Rattle.sheet.specs.Values.{vehicle_of}
use Rattle.evaluation_clock.specs.declared.clock.Schedule.{Schedule}
use Rattle.evaluation.specs.declared.limits.RouteLimits.{RouteLimits}
use Rattle.evaluation.specs.Verdict.{held_to, is_feasible}
use Rattle.evaluation.specs.Feasible.{route_feasible}
use Rattle.reason.specs.declared.Reason.{Reason}
use Rattle.reason.specs.declared.Reason.TheVariants.{NoVehicle, OverCapacity, WindowMissed, NoRestPlace, OverDistance, OverDuration, FleetUsedUp}

-- The conditions are definitions of their own (Reason).
abbrev pub reason_number : Reason → ℕ
-- "no depot has a vehicle"
reason_number NoVehicle = 1
-- "over capacity"
reason_number OverCapacity = 2
-- "window missed"
reason_number WindowMissed = 3
-- "no place for the rest (limits apart)"
reason_number NoRestPlace = 4
-- "over distance"
reason_number OverDistance = 5
-- "over duration or not home by the depot's due"
reason_number OverDuration = 6
-- "7, the fleet is used up"
reason_number FleetUsedUp = 7

-- the first that holds of a lone round, by its number; none where nothing does
abbrev pub FirstReason : Option Reason → ℕ → Type 0
FirstReason reason n = MatchOption reason (n ≡ 7) (λ r. (reason_number r ≡ n) × (reason_number r < 7))

-- whatever maxima are asked, the lone round keeps them exactly if the schedule x does, with the rest and its place at home as `limits` has them; where x is none it keeps none
abbrev pub DecidesLone : List ℕ → ℕ → ℕ → RouteLimits → Option Schedule → Type 0
DecidesLone s depot row limits x = (asked : RouteLimits) → asked.rest ≡ limits.rest → asked.at_home ≡ limits.at_home → is_feasible (held_to asked x) ≡ route_feasible s depot asked (row ∷ [])

-- ---- the vehicles of a depot from an index on, and all of them by the first
abbrev pub fleet_from : List ℕ → ℕ → ℕ → List ℕ
fleet_from s depot v = filtered (λ k. eqb (vehicle_of s k).depot depot) (vehicles_of s - v) v

abbrev pub fleet_by_first : List ℕ → ℕ → Option ℕ → List ℕ
fleet_by_first s depot None = []
fleet_by_first s depot (Some v) = v ∷ fleet_from s depot (v + 1)
