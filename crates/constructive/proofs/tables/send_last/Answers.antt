-- `constructive::tables::send_last` meets its contract. Assumes nothing.
use Rattle.constructive.proofs.Sending.{begins, goes_on, ends}
use Rattle.constructive.proofs.tables.send_last.Goals as goal

pub loop-i-init : goal.loop-i-init
loop-i-init c = begins c.args.stops.now c.args.from c.requires

pub loop-i-preserved : goal.loop-i-preserved
loop-i-preserved c = goes_on _ _ _ _ _ c.loop-i.invariant c.loop-i-test.true

pub returns : goal.returns
returns c = ends _ _ _ _ _ c.loop-i.invariant c.loop-i-test.false _
