-- `evaluation::checks::has_soft_windows` meets its contract. Assumes nothing.
use Rattle.evaluation.specs.Checks.{has_soft_windows}
use Rattle.evaluation.proofs.checks.has_soft_windows.Goals as goal

pub returns : goal.returns
unfolding has_soft_windows
returns c = c.any_windowed.ensures
