-- `solomon_distances::write_distances` meets its contract. Assumes nothing.
use native.Mathlib.Omega.{arith}
use Rattle.sheet.proofs.Cells.{square}
use Rattle.solomon_distances.proofs.Floats.{root_number}
use Rattle.solomon_distances.proofs.Filling.{filling_begins, filling_length, filled_so_far, filling_ends, its_row, its_column, its_place, its_room, fills}
use Rattle.solomon_distances.proofs.write_distances.Goals as goal

pub overflow_mul-k-end : goal.overflow_mul-k-end
overflow_mul-k-end c = omega (arith, square c.args.rows c.requires.few)

pub loop-k-init : goal.loop-k-init
loop-k-init c = let a = c.args in filling_begins a.sheet.now a.rows a.at c.requires

pub entry-distance-requires : goal.entry-distance-requires
entry-distance-requires c = let g = c.loop-k.invariant in
    let h = c.loop-k-test.true in
    record {
      i_lt_rows = (its_row _ _ _ _ _ g h, its_column _ _ _ _ _ g h);
      filled_to = rw (its_place _ _ _ _ _ g h) (filled_so_far _ _ _ _ _ g);
    }

pub overflow_mul-k : goal.overflow_mul-k
overflow_mul-k c = omega (arith, its_room _ _ _ _ _ c.loop-k.invariant c.loop-k-test.true, filling_length _ _ _ _ _ c.loop-k.invariant)

pub overflow_add-at : goal.overflow_add-at
overflow_add-at c = omega (arith, its_room _ _ _ _ _ c.loop-k.invariant c.loop-k-test.true, filling_length _ _ _ _ _ c.loop-k.invariant)

pub put_f64-requires-clause-at_in_bounds : goal.put_f64-requires-clause-at_in_bounds
put_f64-requires-clause-at_in_bounds c = its_room _ _ _ _ _ c.loop-k.invariant c.loop-k-test.true

pub put_f64-requires-clause-t : goal.put_f64-requires-clause-t
put_f64-requires-clause-t c = root_number _ _ c.entry-distance.ensures

pub overflow_step-k : goal.overflow_step-k
overflow_step-k c = omega arith

pub loop-k-smaller : goal.loop-k-smaller
loop-k-smaller c = omega arith

pub loop-k-preserved : goal.loop-k-preserved
loop-k-preserved c = fills _ _ _ _ _ c.loop-k.invariant c.loop-k-test.true c.entry-distance.result c.entry-distance.ensures _ c.put_f64.ensures

pub shape_of-sheet : goal.shape_of-sheet
shape_of-sheet c = filling_length _ _ _ _ _ c.loop-k.invariant

pub returns : goal.returns
returns c = filling_ends _ _ _ _ _ c.loop-k.invariant c.loop-k-test.false
