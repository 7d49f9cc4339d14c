-- On an accepted sheet no field is a NaN: each is finite, not negative, and at most the end of its range. So no sum or product of a walk overflows.
use Rattle.std.specs.Prelude.{ℕ, List, T}
use Rattle.wire.specs.Bytes.{is_number}
use Rattle.sheet.specs.Fields.{service_at, ready_at, due_at, penalty_at, cost_at, fixed_at, max_distance_at, max_duration_at, earliest_at, latest_at, rest_at}

-- the same as numbers that may be read
pub record RowNumbers (s : List ℕ) (at : ℕ) : Type 0 where
  pub service : T (is_number s (service_at at))
  pub ready : T (is_number s (ready_at at))
  pub due : T (is_number s (due_at at))
  pub penalty : T (is_number s (penalty_at at))

pub record VehicleNumbers (s : List ℕ) (at : ℕ) : Type 0 where
  pub cost : T (is_number s (cost_at at))
  pub fixed : T (is_number s (fixed_at at))
  pub distance : T (is_number s (max_distance_at at))
  pub duration : T (is_number s (max_duration_at at))
  pub earliest : T (is_number s (earliest_at at))
  pub latest : T (is_number s (latest_at at))
  pub resting : T (is_number s (rest_at at))
