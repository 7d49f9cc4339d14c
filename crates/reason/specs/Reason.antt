-- docs/SCOPE.md#why-a-stop-is-set-aside. Request Six: "The zero u16 in the row record becomes a reason for each set-aside stop (..) It is the first that holds of the stop's lone round,
-- with the first vehicle of the depot tried last". A function of sheet and stop alone.
use Rattle.std.specs.Prelude.{ℕ, zero, suc, ◌+◌, Bool, false, not, ◌&&◌, ◌||◌, cond, List, [], ◌∷◌, leb, eqb, Float, None, is_none}
use Rattle.sheet.specs.Fields.{method_of}
use Rattle.sheet.specs.Depots.{depots_of}
use Rattle.sheet.specs.Fleet.{fleet_of}
use Rattle.sheet.specs.Values.{nought, demand_of, stop_of, vehicle_of, distance_of, time_of}
use Rattle.sheet.specs.declared.customer.Gate.{Gate}
use Rattle.sheet.specs.declared.customer.Gate.TheVariants.{Open, Hard, Soft}
use Rattle.evaluation_clock.specs.Sums.{◌⊕◌}
use Rattle.evaluation_clock.specs.Window.{violated_of}
use Rattle.evaluation.specs.Limits.{limits_at, within_of}
use Rattle.evaluation.specs.Feasible.{route_feasible}
use Rattle.evaluation.specs.declared.limits.RouteLimits.{RouteLimits}
use Rattle.multi_depot_offers.specs.ByDepot.{has_vehicle, is_no_depot, sooner}

-- ---- "the depot tried last": of those that have a vehicle the farthest by its leg to the stop, of equals the higher
-- one depot more is the last so far if every depot before it is nearer
abbrev pub tried : List ℕ → ℕ → ℕ → ℕ → Bool
tried s i best d = has_vehicle s d && (is_no_depot s best || sooner s i best d)

-- of the n depots from d on
unfoldable pub tried_from : List ℕ → ℕ → ℕ → ℕ → ℕ → ℕ
tried_from s i zero d best = best
tried_from s i (suc n) d best = tried_from s i n (d + 1) (cond (tried s i best d) d best)

-- none where no depot has a vehicle
unfoldable pub last_tried : List ℕ → ℕ → ℕ
last_tried s i = tried_from s i (depots_of s) 0 (depots_of s)

-- ---- what may hold of the lone round of stop i from depot d, of the vehicle at index v
-- 2: "over capacity"
unfoldable pub over_capacity : List ℕ → ℕ → ℕ → Bool
over_capacity s v i = not (leb (demand_of s i) (vehicle_of s v).capacity)

abbrev pub misses_hard : Gate → Float → Bool
misses_hard Open arrival = false
misses_hard (Hard w) arrival = violated_of w arrival
misses_hard (Soft w penalty) arrival = false

-- 3: "window missed"; "Reason 3 is read on the walk without a rest, hard windows only."
unfoldable pub window_missed : List ℕ → ℕ → ℕ → Bool
window_missed s d i = misses_hard (stop_of s i).gate (nought ⊕ time_of s d i)

-- "limits apart"
abbrev pub without_maxima : RouteLimits → RouteLimits
without_maxima l = record { max_distance = None; max_duration = None; rest = l.rest; at_home = l.at_home }

-- 4: "no place for the rest (limits apart)"; home is a place on a vehicle that may rest there. Asked where no window is missed without a rest
unfoldable pub no_rest_place : List ℕ → ℕ → ℕ → ℕ → Bool
no_rest_place s d v i = not (route_feasible s d (without_maxima (limits_at s v)) (i ∷ []))

-- 5: "over distance"
unfoldable pub over_distance : List ℕ → ℕ → ℕ → ℕ → Bool
over_distance s d v i = not (within_of (limits_at s v).max_distance (nought ⊕ distance_of s d i ⊕ distance_of s i d))

-- whatever it drives
abbrev pub without_max_distance : RouteLimits → RouteLimits
without_max_distance l = record { max_distance = None; max_duration = l.max_duration; rest = l.rest; at_home = l.at_home }

-- 6: "over duration or not home by the depot's due", with the rest at any place where it may be. The due is in the greatest duration (`limits_at`). Asked where the rest has a place
unfoldable pub over_duration : List ℕ → ℕ → ℕ → ℕ → Bool
over_duration s d v i = not (route_feasible s d (without_max_distance (limits_at s v)) (i ∷ []))

-- "Plain nearest neighbour without a rest passes over 3 and the depot's due and counts no waiting"
unfoldable pub over_plain_duration : List ℕ → ℕ → ℕ → ℕ → Bool
over_plain_duration s d v i = not (within_of (vehicle_of s v).max_duration (nought ⊕ time_of s d i ⊕ (stop_of s i).service ⊕ time_of s i d))

-- ---- the first that holds, 7 where none does
unfoldable pub plain_reason : List ℕ → ℕ → ℕ → ℕ → ℕ
plain_reason s d v i = cond (over_capacity s v i) 2 (cond (over_distance s d v i) 5 (cond (over_plain_duration s d v i) 6 7))

unfoldable pub walked_reason : List ℕ → ℕ → ℕ → ℕ → ℕ
walked_reason s d v i = cond (window_missed s d i) 3 (cond (no_rest_place s d v i) 4 (cond (over_distance s d v i) 5 (cond (over_duration s d v i) 6 7)))

abbrev pub plainly_asked : List ℕ → ℕ → Bool
plainly_asked s v = eqb (method_of s) 2 && is_none (vehicle_of s v).rest

-- "savings pass over 2"
unfoldable pub lone_reason : List ℕ → ℕ → ℕ → ℕ → ℕ
lone_reason s d v i =
    cond (plainly_asked s v) (plain_reason s d v i)
    (cond (not (eqb (method_of s) 0) && over_capacity s v i) 2 (walked_reason s d v i))

-- ---- the reason
-- a vehicle "could make the lone round" if nothing holds of it
unfoldable pub some_makes : List ℕ → ℕ → ℕ → List ℕ → Bool
some_makes s d i [] = false
some_makes s d i (v ∷ vs) = eqb (lone_reason s d v i) 7 || some_makes s d i vs

abbrev pub is_nearest : List ℕ → Bool
is_nearest s = eqb (method_of s) 2 || eqb (method_of s) 3

-- of a depot's vehicles: "and for both nearest neighbours whenever another vehicle of that depot could make the lone round, 7"; 1: "no depot has a vehicle"
unfoldable pub reason_by : List ℕ → ℕ → ℕ → List ℕ → ℕ
reason_by s d i [] = 1
reason_by s d i (v ∷ vs) = cond (is_nearest s && some_makes s d i vs) 7 (lone_reason s d v i)

unfoldable pub reason_of : List ℕ → ℕ → ℕ
reason_of s i = reason_by s (last_tried s i) i (fleet_of s (last_tried s i))
