-- `plan_reasons::write_reasons` meets its contract. Assumes nothing.
use Rattle.plan_reasons.proofs.Giving.{Giving}
use Rattle.plan_reasons.proofs.write_reasons.Given as goal

abbrev pub invariant-loop-row : goal.invariant-loop-row
invariant-loop-row g l = Giving l.sheet g.reason l.aside l.initial.plan l.plan l.row-index
