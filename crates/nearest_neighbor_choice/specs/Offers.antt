-- docs/SCOPE.md#the-methods. Document 01, "nearest_neighbor.rs" and "nn_tw.rs": what each rule offers of a stop, in the Rust's order of operations.
use Rattle.std.specs.Prelude.{ℕ, ◌+◌, Bool, true, false, not, ◌&&◌, List, [], ◌∷◌, ◌++◌, leb, Float, Option, Some, None}
use Rattle.std.specs.Float.Ieee.{lt, le}
use Rattle.sheet.specs.Values.{nought, demand_of, stop_of, distance_of, time_of, fixed_in_distance}
use Rattle.sheet.specs.declared.customer.Gate.{Gate}
use Rattle.sheet.specs.declared.customer.Gate.TheVariants.{Open, Hard, Soft}
use Rattle.sheet.specs.declared.vehicle.Vehicle.{Vehicle}
use Rattle.evaluation_clock.specs.Sums.{◌⊕◌, ◌⊖◌, ◌⊗◌}
use Rattle.evaluation_clock.specs.Window.{lateness_of, service_start}
use Rattle.evaluation.specs.Limits.{allow_of}
use Rattle.evaluation.specs.declared.limits.RouteLimits.{RouteLimits}
use Rattle.evaluation.specs.Feasible.{route_feasible, effective_cost}
use Rattle.nearest_neighbor_choice.specs.Choice.{Offer, out, key, Trip}
use Rattle.sheet.specs.declared.vehicle.VehicleBreak.{VehicleBreak}

-- ---- both
-- "A place for a stop is lawful if the load stays within capacity"
abbrev pub trip_carries : List ℕ → Vehicle → Trip → ℕ → Bool
trip_carries s v trip i = leb (trip.load + demand_of s i) v.capacity

-- "and `route_feasible` passes the round with the stop in it": so with a rest; without one the limits are held to figures of the rule's own
abbrev pub allows : List ℕ → ℕ → RouteLimits → Option VehicleBreak → Trip → ℕ → Float → Float → Bool
allows s depot limits None trip i distance duration = allow_of limits distance duration
allows s depot limits (Some b) trip i distance duration = route_feasible s depot limits (trip.stops ++ (i ∷ []))

abbrev pub offer_if : Bool → Float → Offer
offer_if true k = key k
offer_if false k = out

-- the distance with the way there and home
abbrev pub there_and_home : List ℕ → ℕ → Trip → ℕ → Float
there_and_home s depot trip i = trip.travelled ⊕ distance_of s trip.current i ⊕ distance_of s i depot

-- ---- nearest neighbour: "without a rest it ignores windows and waiting"
unfoldable pub nearest_offer : List ℕ → ℕ → Vehicle → RouteLimits → Trip → ℕ → Offer
nearest_offer s depot v limits trip i =
    offer_if
    (trip_carries s v trip i
    && allows s depot limits limits.rest trip i (there_and_home s depot trip i)
    (trip.clock ⊕ time_of s trip.current i ⊕ (stop_of s i).service ⊕ time_of s i depot))
    (distance_of s trip.current i)

-- ---- nn_tw
abbrev pub arrival_at : List ℕ → Trip → ℕ → Float
arrival_at s trip i = trip.clock ⊕ time_of s trip.current i

-- by how much an arrival is late, whatever the window costs
abbrev pub late_at : Gate → Float → Float
late_at Open arrival = nought
late_at (Hard w) arrival = lateness_of w arrival
late_at (Soft w penalty) arrival = lateness_of w arrival

abbrev pub penalty_of : Gate → Float
penalty_of Open = nought
penalty_of (Hard w) = nought
penalty_of (Soft w penalty) = penalty

-- late at a hard window
abbrev pub missed : Gate → Float → Bool
missed Open late = false
missed (Hard w) late = lt nought late
missed (Soft w penalty) late = false

abbrev pub is_first : List ℕ → Bool
is_first [] = true
is_first (row ∷ rows) = false

-- what a stop adds to the round so far, with its lateness
abbrev pub marginal : List ℕ → ℕ → Trip → ℕ → Float → Float
marginal s depot trip i lateCost = distance_of s trip.current i ⊕ distance_of s i depot ⊖ distance_of s trip.current depot ⊕ lateCost

-- "soft windows (..) also need the added cost to be below going alone plus the fixed cost"; the first stop of a round goes alone
abbrev pub stop_too_dear : List ℕ → ℕ → Vehicle → RouteLimits → Bool → Trip → ℕ → Float → Bool
stop_too_dear s depot v limits soft trip i lateCost =
    (soft && not (is_first trip.stops))
    && le (effective_cost s depot limits (i ∷ []) ⊕ fixed_in_distance v) (marginal s depot trip i lateCost)

-- "key is distance plus penalty times lateness"
unfoldable pub window_offer : List ℕ → ℕ → Vehicle → RouteLimits → Bool → Trip → ℕ → Offer
window_offer s depot v limits soft trip i =
    let gate = (stop_of s i).gate in
    let arrival = arrival_at s trip i in
    let late = late_at gate arrival in
    let lateCost = penalty_of gate ⊗ late in
    offer_if
    (trip_carries s v trip i
    && (not (missed gate late)
    && (allows s depot limits limits.rest trip i (there_and_home s depot trip i) (service_start gate arrival ⊕ (stop_of s i).service ⊕ time_of s i depot)
    && not (stop_too_dear s depot v limits soft trip i lateCost))))
    (distance_of s trip.current i ⊕ lateCost)
