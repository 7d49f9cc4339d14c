-- `evaluation::checks::route_checks_needed` meets its contract. Assumes nothing.
use Rattle.evaluation.specs.Checks.{route_checks_needed}
use Rattle.evaluation.proofs.checks.route_checks_needed.Goals as goal

pub returns-then-has_time_windows : goal.returns-then-has_time_windows
unfolding route_checks_needed
returns-then-has_time_windows c = rw (← c.has_time_windows.ensures, c.if-has_time_windows.true)

pub returns-else-has_time_windows : goal.returns-else-has_time_windows
unfolding route_checks_needed
returns-else-has_time_windows c = rw (← c.has_time_windows.ensures, c.if-has_time_windows.false, c.is_unlimited.ensures)
