-- `evaluation::home::outlasts` meets its contract. Assumes nothing.
use Rattle.std.proofs.Common.{rules}
use Rattle.evaluation.specs.Soonest.{outlasts}
use Rattle.evaluation.proofs.home.outlasts.Goals as goal

pub returns : goal.returns
unfolding outlasts
returns c = search rules
