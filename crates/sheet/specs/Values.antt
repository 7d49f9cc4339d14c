-- docs/SCOPE.md#the-sheet. What a stop, a vehicle and a leg are, read from the sheet's bytes. For each enum, which of document 01's marks and values make which case.
use Rattle.std.specs.Prelude.{ℕ, ◌+◌, ◌*◌, Bool, true, false, cond, List, Float, Option, Some, None}
use Rattle.std.specs.Float.{binary64}
use Rattle.std.specs.Float.Ieee.{of_bits, lt, div}
use Rattle.wire.specs.Bytes.{u32_at, f64_at}
use Rattle.sheet.specs.declared.customer.Window.{Window}
use Rattle.sheet.specs.declared.customer.Gate.{Gate}
use Rattle.sheet.specs.declared.customer.Gate.TheVariants.{Open, Hard, Soft}
use Rattle.sheet.specs.declared.customer.Stop.{Stop}
use Rattle.sheet.specs.declared.vehicle.VehicleBreak.{VehicleBreak}
use Rattle.sheet.specs.declared.vehicle.Vehicle.{Vehicle}
use Rattle.sheet.specs.Fields.{rows_of, times_of, row_at, x_field, y_field, row_marks, service_at, ready_at, due_at, penalty_at, vehicle_at, id_field, depot_field, vehicle_marks, cost_at, fixed_at, max_distance_at, max_duration_at, earliest_at, latest_at, rest_at, entry_at, marked}

-- "each stop holds its gate: open, hard window, or window with penalty", by the marks 2 window and 4 penalty.
-- "A penalty without a window has no effect": the gate is open.
abbrev pub gate_of : Bool → Bool → Window → Float → Gate
gate_of false p w x = Open
gate_of true false w x = Hard w
gate_of true true w x = Soft w x

abbrev pub window_at : List ℕ → ℕ → Window
window_at s at = record { ready = f64_at s (ready_at at); due = f64_at s (due_at at) }

unfoldable pub gate_at : List ℕ → ℕ → Gate
gate_at s at = gate_of (marked 2 (row_marks s at)) (marked 4 (row_marks s at)) (window_at s at) (f64_at s (penalty_at at))

-- the demand, which no accepted row has below 0
unfoldable pub demand_of : List ℕ → ℕ → ℕ
demand_of s i = u32_at s (row_at i + 8)

-- the stop of row i
unfoldable pub stop_of : List ℕ → ℕ → Stop
stop_of s i = record {
  x = x_field s (row_at i);
  y = y_field s (row_at i);
  demand = demand_of s i;
  service = f64_at s (service_at (row_at i));
  gate = gate_at s (row_at i);
}

-- a maximum is there where its mark is: 1 max distance, 2 max duration
abbrev pub limit_of : Bool → Float → Option Float
limit_of false x = None
limit_of true x = Some x

unfoldable pub limit_at : ℕ → List ℕ → ℕ → ℕ → Option Float
limit_at mark s at field = limit_of (marked mark (vehicle_marks s at)) (f64_at s field)

-- a rest is required where its mark 4 is, with earliest, latest and rest duration
abbrev pub rest_of : Bool → VehicleBreak → Option VehicleBreak
rest_of false b = None
rest_of true b = Some b

unfoldable pub rest_after : List ℕ → ℕ → Option VehicleBreak
rest_after s at =
    rest_of (marked 4 (vehicle_marks s at))
    (record { earliest = f64_at s (earliest_at at); latest = f64_at s (latest_at at); duration = f64_at s (rest_at at) })

-- the vehicle at index v; its capacity, which no accepted vehicle has below 0
unfoldable pub vehicle_of : List ℕ → ℕ → Vehicle
vehicle_of s v = record {
  id = id_field s (vehicle_at s v);
  depot = depot_field s (vehicle_at s v);
  capacity = u32_at s (vehicle_at s v + 8);
  cost_per_distance = f64_at s (cost_at (vehicle_at s v));
  fixed_cost = f64_at s (fixed_at (vehicle_at s v));
  max_distance = limit_at 1 s (vehicle_at s v) (max_distance_at (vehicle_at s v));
  max_duration = limit_at 2 s (vehicle_at s v) (max_duration_at (vehicle_at s v));
  rest = rest_after s (vehicle_at s v);
}

-- "Drivers may now rest at the depot on return. Vehicle mark 8 allows it."
unfoldable pub rests_home_at : List ℕ → ℕ → Bool
rests_home_at s v = marked 8 (vehicle_marks s (vehicle_at s v))

-- "rows × rows distances": the leg from row i to row j
unfoldable pub distance_of : List ℕ → ℕ → ℕ → Float
distance_of s i j = f64_at s (entry_at s (i * rows_of s + j))

-- "without a time table, distances serve as times"
unfoldable pub time_of : List ℕ → ℕ → ℕ → Float
time_of s i j = f64_at s (entry_at s (times_of s * (rows_of s * rows_of s) + (i * rows_of s + j)))

abbrev pub nought : Float
nought = of_bits binary64 0

-- "fixed cost in distance is fixed ÷ cost per distance, or 0 if the latter is 0"; it is never below 0
unfoldable pub fixed_in_distance : Vehicle → Float
fixed_in_distance v = cond (lt nought v.cost_per_distance) (div binary64 v.fixed_cost v.cost_per_distance) nought
