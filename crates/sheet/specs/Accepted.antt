-- What an accepted sheet is: each range of document 01 a named clause. The refusal is 0 exactly for these sheets, with a plan buffer of the exact length.
use Rattle.std.specs.Prelude.{◌≡◌, ℕ, ◌^◌, ◌≤◌, ◌<◌, List, T, length}
use Rattle.numbers.specs.Range.{whole}
use Rattle.sheet.specs.Fields.{rows_of, vehicles_of, method_of, times_of, spare_of, row_at, x_field, y_field, demand_field, row_marks, service_at, ready_at, penalty_at, vehicle_at, id_field, depot_field, capacity_field, vehicle_marks, cost_at, fixed_at, max_distance_at, max_duration_at, earliest_at, rest_at, entries_of, entry_at, sheet_length, marked, most_rows, most_vehicles}
use Rattle.sheet.specs.Depots.{depots_of}
use Rattle.sheet.specs.Ranges.{coordinate, demand, capacity, marks, vehicle_marking, amount, optional, interval, cost_per_distance}
use Rattle.sheet.specs.Refusal.{needs_vehicle}

-- the row whose record starts at `at`
pub record RowRanges (s : List ℕ) (at : ℕ) : Type 0 where
  pub x : T (coordinate (x_field s at))
  pub y : T (coordinate (y_field s at))
  pub demanded : T (demand (demand_field s at))
  pub marking : T (marks (row_marks s at))
  pub service : T (amount s (service_at at))
  pub window : T (interval (marked 2 (row_marks s at)) s (ready_at at))
  pub penalty : T (optional (marked 4 (row_marks s at)) (whole (10 ^ 6)) s (penalty_at at))

-- the vehicle whose record starts at `at`
pub record VehicleRanges (s : List ℕ) (at : ℕ) : Type 0 where
  pub depot : depot_field s at < depots_of s
  pub carries : T (capacity (capacity_field s at))
  pub marking : T (vehicle_marking (vehicle_marks s at))
  pub cost : T (cost_per_distance s (cost_at at))
  pub fixed : T (amount s (fixed_at at))
  pub distance : T (optional (marked 1 (vehicle_marks s at)) (whole (10 ^ 12)) s (max_distance_at at))
  pub duration : T (optional (marked 2 (vehicle_marks s at)) (whole (10 ^ 12)) s (max_duration_at at))
  pub rest : T (interval (marked 4 (vehicle_marks s at)) s (earliest_at at))
  pub resting : T (optional (marked 4 (vehicle_marks s at)) (whole (10 ^ 9)) s (rest_at at))

-- the counts are in range and the length is theirs: every field lies within the bytes (a clause: before the check there are bytes
-- alone, and no type of what is known of them so far)
pub record Sized (s : List ℕ) : Type 0 where
  pub rows : rows_of s ≤ most_rows
  pub vehicles : vehicles_of s ≤ most_vehicles
  pub times : times_of s ≤ 1
  pub long : length s ≡ sheet_length s

pub record Accepted (s : List ℕ) : Type 0 where
  pub sized : Sized s
  pub spare : spare_of s ≡ 0
  pub method : method_of s ≤ 4
  pub row : (i : ℕ) → i < rows_of s → RowRanges s (row_at i)
  pub entry : (k : ℕ) → k < entries_of s → T (amount s (entry_at s k))
  pub vehicle : (v : ℕ) → v < vehicles_of s → VehicleRanges s (vehicle_at s v)
  pub ids : (v w : ℕ) → v < vehicles_of s → w < v → id_field s (vehicle_at s w) ≡ id_field s (vehicle_at s v) → ⊥
  pub fleet : vehicles_of s ≡ 0 → T (needs_vehicle (method_of s)) → ⊥
