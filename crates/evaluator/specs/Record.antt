-- docs/SCOPE.md#the-plan. "`build_route` gives a round's figures, `price` the plan's cost, each in the Rust's order of operations".
use Rattle.std.specs.Prelude.{ℕ, ◌+◌, cond, eqb, Float, Option, Some, None}
use mathlib.Core.List.{List, foldl}
use Rattle.std.specs.Float.{binary64}
use Rattle.std.specs.Float.Ieee.{of_bits}
use Rattle.sheet.specs.Values.{nought, stop_of, distance_of, time_of}
use Rattle.sheet.specs.declared.customer.Gate.{Gate}
use Rattle.sheet.specs.declared.customer.Gate.TheVariants.{Open, Hard, Soft}
use Rattle.sheet.specs.declared.vehicle.Vehicle.{Vehicle}
use Rattle.evaluation_clock.specs.Sums.{◌⊕◌, ◌⊗◌}
use Rattle.evaluation_clock.specs.Window.{violated_of, lateness_of}
use Rattle.evaluation_clock.specs.Serve.{departure_of}
use Rattle.evaluation.specs.Verdict.{Verdict, verdict_on, placed_rest}
use Rattle.evaluation_clock.specs.RestAnswer.{RestAnswer}
use Rattle.evaluation.specs.declared.limits.RouteLimits.{RouteLimits}
use Rattle.evaluator.specs.declared.Progress.{Progress}
use Rattle.evaluator.specs.declared.Record.{Record}
use Rattle.evaluator.specs.declared.Placed.{Placed}
use Rattle.sheet.specs.declared.vehicle.VehicleBreak.{VehicleBreak}

-- ---- the rest
-- where the verdict on a round puts it
abbrev pub placed_by : Option VehicleBreak → Verdict → Placed
placed_by None v = record { answer = None; duration = nought }
placed_by (Some b) v = record { answer = placed_rest v; duration = b.duration }

-- the rest that a vehicle takes on a round
unfoldable pub placed_of : List ℕ → ℕ → RouteLimits → List ℕ → Placed
placed_of s depot limits route = placed_by limits.rest (verdict_on s depot limits route)

-- "its end then counts as arrival" at the stop that the rest stands before
unfoldable pub ready_for : RestAnswer → Float → ℕ → Float → Float
ready_for None duration place arrival = arrival
ready_for (Some (at, start)) duration place arrival = cond (eqb at place) (start ⊕ duration) arrival

-- ---- a visit
-- arrival, plus the wait, plus service; a hard window that is missed changes no figure
unfoldable pub departs_at : Gate → Float → Float → Float
departs_at Open ready service = ready ⊕ service
departs_at (Hard w) ready service = departure_of w ready service
departs_at (Soft w penalty) ready service = departure_of w ready service

-- the lateness so far, and its cost, after a stop that the vehicle is ready for at `ready`
unfoldable pub late_after : Gate → Float → Float → Float
late_after Open ready late = late
late_after (Hard w) ready late = late
late_after (Soft w penalty) ready late = cond (violated_of w ready) (late ⊕ lateness_of w ready) late

unfoldable pub cost_after : Gate → Float → Float → Float
cost_after Open ready cost = cost
cost_after (Hard w) ready cost = cost
cost_after (Soft w penalty) ready cost = cond (violated_of w ready) (cost ⊕ penalty ⊗ lateness_of w ready) cost

-- the visit of a row, with the vehicle ready there at `ready`; the arrival is before the rest, as in the Rust
abbrev pub visit_at : List ℕ → Progress → ℕ → Float → Float → Progress
visit_at s p row arrival ready = record {
  arrival = arrival;
  departure = departs_at (stop_of s row).gate ready (stop_of s row).service;
  load = p.load + (stop_of s row).demand;
  distance = p.distance ⊕ distance_of s p.prev row;
  lateness = late_after (stop_of s row).gate ready p.lateness;
  lateness_cost = cost_after (stop_of s row).gate ready p.lateness_cost;
  prev = row;
  place = p.place + 1;
}

unfoldable pub visited_of : List ℕ → Placed → Progress → ℕ → Progress
visited_of s t p row =
    let arrival = p.departure ⊕ time_of s p.prev row in
    visit_at s p row arrival (ready_for t.answer t.duration p.place arrival)

-- "It leaves the vehicle's depot at 0."
abbrev pub begin_of : ℕ → Progress
begin_of depot = record { arrival = nought; departure = nought; load = 0; distance = nought; lateness = nought; lateness_cost = nought; prev = depot; place = 1 }

-- the round after the stops left
abbrev pub progress_of : List ℕ → Placed → Progress → List ℕ → Progress
progress_of s t p rows = foldl (visited_of s t) p rows

-- ---- the round
-- home is the place after the last stop, so of a rest that stands there "the duration is its end"
unfoldable pub record_of : List ℕ → ℕ → Placed → Progress → Record
record_of s depot t p = record {
  load = p.load;
  distance = p.distance ⊕ distance_of s p.prev depot;
  duration = ready_for t.answer t.duration p.place (p.departure ⊕ time_of s p.prev depot);
  lateness = p.lateness;
  lateness_cost = p.lateness_cost;
  rest = t.answer;
}

unfoldable pub build_route : List ℕ → ℕ → RouteLimits → List ℕ → Record
build_route s depot limits route =
    let t = placed_of s depot limits route in
    record_of s depot t (progress_of s t (begin_of depot) route)

-- ---- the plan's cost
-- `route_cost`: the fixed cost, plus the cost per distance times the distance
unfoldable pub route_cost : Vehicle → Float → Float
route_cost v distance = v.fixed_cost ⊕ v.cost_per_distance ⊗ distance

-- std sums floats from -0.0, so a plan without rounds costs that
abbrev pub price_start : Float
price_start = of_bits binary64 0x8000_0000_0000_0000

-- one round more: lateness is priced like distance
unfoldable pub price_with : Float → Vehicle → Record → Float
price_with total v k = total ⊕ route_cost v (k.distance ⊕ k.lateness_cost)
