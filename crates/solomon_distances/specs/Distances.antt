-- docs/SCOPE.md#the-importer. Document 02, Three: "Distances are the square root of the whole squared distance, rounded correctly to f64", of rows that stand in a sheet.
use Rattle.std.specs.Prelude.{◌≡◌, ℕ, ◌+◌, ◌*◌, ◌≤◌, ◌<◌, List, T, nat_abs, ◌-ℤ◌, length, get_or, Float}
use Rattle.wire.specs.Bytes.{write}
use Rattle.numbers.specs.Range.{whole}
use Rattle.sheet.specs.Fields.{most_rows, row_at, x_field, y_field}
use Rattle.sheet.specs.Ranges.{coordinate}
use Rattle.sheet_writer.specs.Sheet.{float_bytes, records_bytes}
use Rattle.square_root.specs.ClosestRoot.{ClosestRoot}

-- a number times itself
abbrev pub square : ℕ → ℕ
square n = n * n

-- the whole squared distance of rows i and j
unfoldable pub squared_between : List ℕ → ℕ → ℕ → ℕ
squared_between s i j = square (nat_abs (x_field s (row_at i) -ℤ x_field s (row_at j))) + square (nat_abs (y_field s (row_at i) -ℤ y_field s (row_at j)))

-- n rows whose coordinates are in range stand before `at`, and there is room for the table from there on
pub record DistancesRoom (s : List ℕ) (n at : ℕ) : Type 0 where
  pub few : n ≤ most_rows
  pub before : row_at n ≤ at
  pub room : at + 8 * (n * n) ≤ length s
  pub across : (i : ℕ) → i < n → T (coordinate (x_field s (row_at i)))
  pub along : (i : ℕ) → i < n → T (coordinate (y_field s (row_at i)))

-- the table stands there, row by row, and nothing else changed
pub record DistancesWritten (s : List ℕ) (n at : ℕ) (out : List ℕ) : Type 0 where
  pub distances : List Float
  pub long : length distances ≡ n * n
  pub closest : (i j : ℕ) → i < n → j < n → ClosestRoot (squared_between s i j) (get_or distances (i * n + j) (whole 0))
  pub bytes : out ≡ write s at (records_bytes float_bytes distances)
