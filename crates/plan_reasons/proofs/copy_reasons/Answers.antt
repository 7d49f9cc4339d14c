-- `plan_reasons::copy_reasons` meets its contract. Assumes nothing.
use native.Mathlib.Omega.{arith}
use Rattle.plan_reasons.proofs.Copying.{begins, goes_on}
use Rattle.plan_reasons.proofs.copy_reasons.Goals as goal

pub loop-row-init : goal.loop-row-init
loop-row-init c = begins _ _ _ _ c.requires.all_dropped

pub loop-row-preserved : goal.loop-row-preserved
loop-row-preserved c = let l = c.loop-row in
    goes_on _ _ _ _ _ _ l.invariant c.loop-row-test.true _ c.reason_at.ensures (omega (arith, l.invariant.long, c.requires.rows_in_bounds, c.requires.chained.row l.row-index c.loop-row-test.true))
