-- `solomon_distances::squared` meets its contract. Assumes nothing.
use mathlib.Core.Path.{◌≡◌, ◌∙◌}
use Prim.Native.Nat.{◌+◌}
use native.Mathlib.Omega.{arith}
use lib.IntN.{nat_abs, ◌-ℤ◌}
use Rattle.sheet.specs.Fields.{row_at, x_field, y_field}
use Rattle.solomon_distances.specs.Distances.{square, squared_between}
use Rattle.solomon_distances.proofs.Signed.{size_read, square_bounded}
use Rattle.solomon_distances.proofs.squared.Goals as goal

dx : (c : goal.After-from-dy) → c.from-dx.result ≡ nat_abs (x_field c.args.sheet.now (row_at c.args.i) -ℤ x_field c.args.sheet.now (row_at c.args.j))
dx c = size_read _ c.i32_at.result c.i32_at-2.result _ _ (record { sfits = c.i32_at.type_inv }) (record { sfits = c.i32_at-2.type_inv }) (c.from-dx.ensures ∙ c.abs_diff.ensures) (rw c.row_place-from.ensures at c.i32_at.ensures) (rw c.row_place-to.ensures at c.i32_at-2.ensures)

dy : (c : goal.After-from-dy) → c.from-dy.result ≡ nat_abs (y_field c.args.sheet.now (row_at c.args.i) -ℤ y_field c.args.sheet.now (row_at c.args.j))
dy c = size_read _ c.i32_at-3.result c.i32_at-4.result _ _ (record { sfits = c.i32_at-3.type_inv }) (record { sfits = c.i32_at-4.type_inv }) (c.from-dy.ensures ∙ c.abs_diff-2.ensures) (rw c.row_place-from.ensures at c.i32_at-3.ensures) (rw c.row_place-to.ensures at c.i32_at-4.ensures)

pub overflow_add-result : goal.overflow_add-result
overflow_add-result c = let p = c.requires in
    omega (arith, square_bounded _ _ _ p.0.across p.1.across (dx c), square_bounded _ _ _ p.0.along p.1.along (dy c))

pub returns : goal.returns
unfolding squared_between
returns c = λ i. square (dx c i) + square (dy c i)
