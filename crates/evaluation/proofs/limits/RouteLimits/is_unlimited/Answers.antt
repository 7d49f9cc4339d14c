-- `evaluation::limits::RouteLimits::is_unlimited` meets its contract. Assumes nothing.
use Rattle.std.proofs.Common.{rules}
use Rattle.evaluation.specs.Limits.{is_unlimited}
use Rattle.evaluation.proofs.limits.RouteLimits.is_unlimited.Goals as goal

pub returns-then-is_none-2 : goal.returns-then-is_none-2
unfolding is_unlimited
returns-then-is_none-2 c = search rules

pub returns-else-is_none-2 : goal.returns-else-is_none-2
unfolding is_unlimited
returns-else-is_none-2 c = search rules
