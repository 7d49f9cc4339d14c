-- `clarke_wright_slots::relabel` meets its contract. Assumes nothing.
use Rattle.clarke_wright_slots.proofs.Relabelling.{begins, goes_on}
use Rattle.clarke_wright_slots.proofs.relabel.Goals as goal

pub loop-row-init : goal.loop-row-init
loop-row-init c = begins c.args.slots.now c.args.route.now c.args.slot c.requires

pub loop-row-preserved : goal.loop-row-preserved
loop-row-preserved c = goes_on _ _ _ _ _ c.loop-row.invariant c.loop-row-test.true
