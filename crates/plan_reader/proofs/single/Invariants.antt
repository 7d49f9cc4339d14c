-- `plan_reader::single` meets its contract. Assumes nothing.
use Rattle.plan_reader.proofs.Marking.{Marking}
use Rattle.plan_reader.proofs.single.Given as goal

abbrev pub invariant-loop-row : goal.invariant-loop-row
invariant-loop-row l = Marking l.rows l.met l.row-index
