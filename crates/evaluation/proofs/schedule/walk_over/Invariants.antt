-- `evaluation::schedule::walk_over` meets its contract. Assumes nothing.
use Rattle.evaluation.proofs.Walking.{Walking}
use Rattle.evaluation.proofs.schedule.walk_over.Given as goal

abbrev pub invariant-loop-stop : goal.invariant-loop-stop
invariant-loop-stop l = Walking l.sheet l.rows l.initial.label l.initial.distance l.initial.prev l.label l.distance l.prev l.stop-index
