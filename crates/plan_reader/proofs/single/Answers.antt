-- `plan_reader::single` meets its contract. Assumes nothing.
use mathlib.Core.Path.{refl}
use Prim.Native.Nat.{◌<◌}
use lib.ListN.{length}
use Rattle.plan_reader.proofs.Marking.{begins, again, goes_on}
use Rattle.plan_reader.proofs.single.Goals as goal

pub loop-row-init : goal.loop-row-init
loop-row-init c = begins c.args.rows.now

pub returns-then-met-row : goal.returns-then-met-row
returns-then-met-row c = again c.args.rows.now c.loop-row.met c.loop-row.row-index c.loop-row.invariant c.loop-row-test.true c.if-met-row.true

pub loop-row-preserved : goal.loop-row-preserved
loop-row-preserved c = let l = c.loop-row in
    let h : l.row-index < length c.args.rows.now = c.loop-row-test.true in
    goes_on c.args.rows.now l.met l.row-index l.invariant _ h (c.requires l.row-index h) c.if-met-row.false refl
