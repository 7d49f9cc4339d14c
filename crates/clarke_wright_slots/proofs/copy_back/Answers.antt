-- `clarke_wright_slots::copy_back` meets its contract. Assumes nothing.
use Rattle.clarke_wright_slots.proofs.Copying.{back_begins, back_goes_on}
use Rattle.clarke_wright_slots.proofs.copy_back.Goals as goal

pub loop-i-init : goal.loop-i-init
loop-i-init c = back_begins c.args.route.now c.args.to.now c.requires

pub loop-i-preserved : goal.loop-i-preserved
loop-i-preserved c = back_goes_on _ _ _ _ _ c.loop-i.invariant c.loop-i-test.true
