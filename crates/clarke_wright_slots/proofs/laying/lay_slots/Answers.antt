-- `clarke_wright_slots::laying::lay_slots` meets its contract. Assumes nothing.
use native.Mathlib.Omega.{arith}
use Rattle.std.proofs.Common.{rules}
use Rattle.clarke_wright_slots.proofs.Rounds.{begins, fits, passes_on, close_room, closes}
use Rattle.clarke_wright_slots.proofs.laying.lay_slots.Goals as goal

pub loop-k-init : goal.loop-k-init
loop-k-init c = (search rules, begins c.args.count c.args.cells.now c.args.lens.now c.args.vehicle c.args.tables.now.stops.now c.args.tables.now.ends.now c.args.tables.now.vehicles.now c.args.filled c.requires)

pub loop-k-preserved-then-n-eq0 : goal.loop-k-preserved-then-n-eq0
loop-k-preserved-then-n-eq0 c = (c.loop-k.invariant.0, passes_on c.loop-k.invariant.1 c.loop-k-test.true c.if-n-eq0.true)

pub offset_bounds-stops-start : goal.offset_bounds-stops-start
offset_bounds-stops-start c = omega (arith, (fits c.loop-k.invariant.1 c.loop-k-test.true).0)

pub slice_bounds-copy-end-in-loop-k : goal.slice_bounds-copy-end-in-loop-k
slice_bounds-copy-end-in-loop-k c = (fits c.loop-k.invariant.1 c.loop-k-test.true).1

pub overflow_add-start : goal.overflow_add-start
overflow_add-start c = omega (arith, (fits c.loop-k.invariant.1 c.loop-k-test.true).0)

pub close_round-done-requires : goal.close_round-done-requires
close_round-done-requires c = let both = close_room c.loop-k.invariant.1 c.loop-k-test.true c.if-n-eq0.false in record { rounds_in_bounds = both.0; end_le_most_rows = both.1 }

pub loop-k-preserved : goal.loop-k-preserved
loop-k-preserved c = rw c.close_round-done.ensures.stops_kept (search rules, closes c.loop-k.invariant.1 c.loop-k-test.true c.if-n-eq0.false c.copy.new.to _ _ _ c.copy.ensures c.close_round-done.ensures.value c.close_round-done.ensures.ends_after.0 c.close_round-done.ensures.ends_after.1)
