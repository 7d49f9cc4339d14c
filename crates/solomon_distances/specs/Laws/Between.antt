-- The whole squared distance of two rows: it is symmetric, and a write behind them does not change it. Assumes nothing.
use Rattle.std.specs.Prelude.{◌≡◌, ℕ, ◌+◌, ◌≤◌, ◌<◌, List, T, ℤ, length}
use Rattle.std.proofs.Common.{sym, ap, subst, arith}
use Rattle.wire.specs.Bytes.{write, signed}
use Rattle.wire.specs.Laws.Bytes.{length_write, le_before}
use Rattle.sheet.specs.Fields.{row_at, x_field, y_field}
use Rattle.sheet.specs.Ranges.{coordinate}
use Rattle.solomon_distances.specs.Distances.{square, squared_between, DistancesRoom}
use Rattle.solomon_distances.specs.Filled.{PointAt}
use Rattle.solomon_distances.specs.Laws.Differences.{abs_symmetric}

pub between_symmetric : (s : List ℕ) (i j : ℕ) → squared_between s i j ≡ squared_between s j i
unfolding squared_between
between_symmetric s i j = λ t. square (abs_symmetric (x_field s (row_at i)) (x_field s (row_at j)) t) + square (abs_symmetric (y_field s (row_at i)) (y_field s (row_at j)) t)

pub point_of : (s : List ℕ) (n at : ℕ) → DistancesRoom s n at → (i : ℕ) → i < n → PointAt s i
point_of s n at r i h =
    record {
      few = omega (arith, r.few);
      inside = omega (arith, r.before, r.room);
      across = r.across i h;
      along = r.along i h;
    }

-- ---- a write behind the rows
module _ (s : List ℕ) (n at : ℕ) (r : DistancesRoom s n at) (xs : List ℕ) (l : at + length xs ≤ length s) where
  x_kept : (i : ℕ) → i < n → x_field (write s at xs) (row_at i) ≡ x_field s (row_at i)
  x_kept i h = ap signed (le_before s at xs l 4 (row_at i) (omega (arith, r.before)))

  y_kept : (i : ℕ) → i < n → y_field (write s at xs) (row_at i) ≡ y_field s (row_at i)
  y_kept i h = ap signed (le_before s at xs l 4 (row_at i + 4) (omega (arith, r.before)))

  pub between_kept : (i j : ℕ) → i < n → j < n → squared_between (write s at xs) i j ≡ squared_between s i j
  unfolding squared_between
  between_kept i j h k = rw (x_kept i h, x_kept j k, y_kept i h, y_kept j k)

  pub room_kept : DistancesRoom (write s at xs) n at
  room_kept =
      record {
        few = r.few;
        before = r.before;
        room = omega (arith, r.room, length_write s at xs l);
        across = λ i h. subst (λ (z : ℤ). T (coordinate z)) (sym (x_kept i h)) (r.across i h);
        along = λ i h. subst (λ (z : ℤ). T (coordinate z)) (sym (y_kept i h)) (r.along i h);
      }
