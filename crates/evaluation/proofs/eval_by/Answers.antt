-- `evaluation::eval_by` meets its contract. Assumes nothing.
use Rattle.std.proofs.Common.{rules}
use Rattle.evaluation.specs.Verdict.{held_to}
use Rattle.evaluation.proofs.eval_by.Goals as goal

pub returns : goal.returns
unfolding held_to
returns c = search rules
