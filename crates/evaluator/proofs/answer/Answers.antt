-- `evaluator::answer` meets its contract. Assumes nothing.
use mathlib.Core.Path.{sym}
use Rattle.evaluation.specs.Laws.Verdict.{held_none, held_rest}
use Rattle.evaluator.proofs.answer.Goals as goal

pub returns : goal.returns
returns c = λ limits. rw c.in_ok-scheduled.was (sym (held_rest limits _))

pub returns-in_err-scheduled : goal.returns-in_err-scheduled
returns-in_err-scheduled c = λ limits. rw (c.in_err-scheduled.was, c.from_residual.ensures, held_none limits)
