-- `evaluator::progress_after` meets its contract. Assumes nothing.
use Rattle.evaluator.proofs.Going.{Going}
use Rattle.evaluator.proofs.progress_after.Given as goal

abbrev pub invariant-loop-stop : goal.invariant-loop-stop
invariant-loop-stop l = Going l.sheet l.depot l.placed l.route l.progress l.stop-index
