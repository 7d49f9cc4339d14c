-- What the steps on the way to the table ask of the sheet.
use Rattle.std.specs.Prelude.{ℕ, ◌+◌, ◌*◌, ◌≤◌, ◌<◌, List, T, length}
use Rattle.wire.specs.Bytes.{f64_at}
use Rattle.sheet.specs.Fields.{most_rows, row_size, row_at, x_field, y_field}
use Rattle.sheet.specs.Ranges.{coordinate}
use Rattle.square_root.specs.ClosestRoot.{ClosestRoot}
use Rattle.solomon_distances.specs.Distances.{DistancesRoom, squared_between}

-- row i stands in the sheet, and its coordinates are in range
pub record PointAt (s : List ℕ) (i : ℕ) : Type 0 where
  pub few : i < most_rows
  pub inside : row_at i + row_size ≤ length s
  pub across : T (coordinate (x_field s (row_at i)))
  pub along : T (coordinate (y_field s (row_at i)))

-- the entries before the k-th stand in the table
pub record FilledTo (s : List ℕ) (n at k : ℕ) : Type 0 where
  pub asked : DistancesRoom s n at
  pub entries : (i j : ℕ) → i < n → j < n → i * n + j < k → ClosestRoot (squared_between s i j) (f64_at s (at + 8 * (i * n + j)))
