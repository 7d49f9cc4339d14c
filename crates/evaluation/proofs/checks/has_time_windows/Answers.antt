-- `evaluation::checks::has_time_windows` meets its contract. Assumes nothing.
use Rattle.evaluation.specs.Checks.{has_time_windows}
use Rattle.evaluation.proofs.checks.has_time_windows.Goals as goal

pub returns : goal.returns
unfolding has_time_windows
returns c = c.any_windowed.ensures
