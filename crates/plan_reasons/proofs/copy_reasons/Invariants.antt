-- `plan_reasons::copy_reasons` meets its contract. Assumes nothing.
use Rattle.plan_reasons.proofs.Copying.{Copying}
use Rattle.plan_reasons.proofs.copy_reasons.Given as goal

abbrev pub invariant-loop-row : goal.invariant-loop-row
invariant-loop-row l = Copying l.sheet l.plan l.aside l.initial.why l.why l.row-index
