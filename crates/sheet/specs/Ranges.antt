-- docs/SCOPE.md#the-sheet. Document 01, "Ranges, ends included", "An unmarked field is all zero bits" and "Vehicle ids differ": each range a test of its own, then all of a record.
use Rattle.std.specs.Prelude.{ℕ, ◌+◌, ◌^◌, Bool, true, false, not, ◌&&◌, ◌||◌, List, leb, ltb, eqb, ℤ, pos, negsuc, nat_abs, Float}
use Rattle.std.specs.Float.Ieee.{le}
use Rattle.wire.specs.Bytes.{u64_at, f64_at}
use Rattle.numbers.specs.Range.{in_range, whole, fraction}
use Rattle.numbers.specs.All.{all}
use Rattle.sheet.specs.Fields.{rows_of, vehicles_of, row_at, x_field, y_field, demand_field, row_marks, service_at, ready_at, penalty_at, vehicle_at, id_field, depot_field, capacity_field, vehicle_marks, cost_at, fixed_at, max_distance_at, max_duration_at, earliest_at, rest_at, entries_of, entry_at, marked}
use Rattle.sheet.specs.Depots.{depots_of}

-- "coordinates ±1,000,000"
unfoldable pub coordinate : ℤ → Bool
coordinate z = leb (nat_abs z) 1000000

-- "demand 0 to 1,000,000"
unfoldable pub demand : ℤ → Bool
demand (pos n) = leb n 1000000
demand (negsuc n) = false

-- "capacity from 0"
unfoldable pub capacity : ℤ → Bool
capacity (pos n) = true
capacity (negsuc n) = false

-- a row's marks are sums of 1, 2 and 4
unfoldable pub marks : ℕ → Bool
marks n = leb n 7

-- a vehicle's are sums of 1, 2, 4 and 8; "mark 8 without mark 4 is a 7"
unfoldable pub vehicle_marking : ℕ → Bool
vehicle_marking n = leb n 15 && (not (marked 8 n) || marked 4 n)

-- "0 to 10^9": distances, times, service, ready, due, earliest, latest, rest duration and fixed cost. "Negative zero lies outside": so says `inRange`.
unfoldable pub amount : List ℕ → ℕ → Bool
amount s at = in_range (u64_at s at) (whole (10 ^ 9))

-- "An unmarked field is all zero bits."
unfoldable pub zero_bits : List ℕ → ℕ → Bool
zero_bits s at = eqb (u64_at s at) 0

-- a field that goes by its mark, from 0 to max: "penalty 0 to 10^6; maxima 0 to 10^12", the rest's duration
unfoldable pub optional : Bool → Float → List ℕ → ℕ → Bool
optional true max s at = in_range (u64_at s at) max
optional false max s at = zero_bits s at

-- "ready ≤ due, earliest ≤ latest (..) 0 to 10^9": two fields one after the other that go by one mark
unfoldable pub interval : Bool → List ℕ → ℕ → Bool
interval true s at = amount s at && (amount s (at + 8) && le (f64_at s at) (f64_at s (at + 8)))
interval false s at = zero_bits s at && zero_bits s (at + 8)

-- "cost per distance 0, or 0.001 to 10^6"; 0.001 is the f64 nearest to it
unfoldable pub cost_per_distance : List ℕ → ℕ → Bool
cost_per_distance s at = in_range (u64_at s at) (whole (10 ^ 6)) && (zero_bits s at || le (fraction 1 1000) (f64_at s at))

-- service, window and penalty of the row whose record starts at `at`, the window and the penalty by their marks
unfoldable pub serving_in_range : List ℕ → ℕ → Bool
serving_in_range s at =
    amount s (service_at at)
    && (interval (marked 2 (row_marks s at)) s (ready_at at)
    && optional (marked 4 (row_marks s at)) (whole (10 ^ 6)) s (penalty_at at))

-- every range of the row
unfoldable pub row_in_range : List ℕ → ℕ → Bool
row_in_range s at =
    coordinate (x_field s at)
    && (coordinate (y_field s at)
    && (demand (demand_field s at)
    && (marks (row_marks s at)
    && serving_in_range s at)))

-- the maxima of the vehicle whose record starts at `at`, and its rest, each by its mark
unfoldable pub maxima_in_range : List ℕ → ℕ → Bool
maxima_in_range s at =
    optional (marked 1 (vehicle_marks s at)) (whole (10 ^ 12)) s (max_distance_at at)
    && optional (marked 2 (vehicle_marks s at)) (whole (10 ^ 12)) s (max_duration_at at)

unfoldable pub rest_in_range : List ℕ → ℕ → Bool
rest_in_range s at =
    interval (marked 4 (vehicle_marks s at)) s (earliest_at at)
    && optional (marked 4 (vehicle_marks s at)) (whole (10 ^ 9)) s (rest_at at)

-- every range of the vehicle; "a vehicle's depot is below the number of depots"
unfoldable pub vehicle_in_range : List ℕ → ℕ → Bool
vehicle_in_range s at =
    ltb (depot_field s at) (depots_of s)
    && (capacity (capacity_field s at)
    && (vehicle_marking (vehicle_marks s at)
    && (cost_per_distance s (cost_at at)
    && (amount s (fixed_at at)
    && (maxima_in_range s at && rest_in_range s at)))))

-- "Vehicle ids differ": no vehicle before v has its id
unfoldable pub same_id : List ℕ → ℕ → ℕ → Bool
same_id s v w = eqb (id_field s (vehicle_at s w)) (id_field s (vehicle_at s v))

unfoldable pub new_id : List ℕ → ℕ → Bool
new_id s v = all (λ w. not (same_id s v w)) v

unfoldable pub rows_in_range : List ℕ → Bool
rows_in_range s = all (λ i. row_in_range s (row_at i)) (rows_of s)

unfoldable pub entries_in_range : List ℕ → Bool
entries_in_range s = all (λ k. amount s (entry_at s k)) (entries_of s)

unfoldable pub vehicles_in_range : List ℕ → Bool
vehicles_in_range s = all (λ v. vehicle_in_range s (vehicle_at s v) && new_id s v) (vehicles_of s)
