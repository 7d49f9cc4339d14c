-- `evaluation::limits::RouteLimits::allow` meets its contract. Assumes nothing.
use Rattle.evaluation.specs.Limits.{allow_of}
use Rattle.evaluation.proofs.limits.RouteLimits.allow.Goals as goal

pub returns-then-within : goal.returns-then-within
unfolding allow_of
returns-then-within c = rw (← c.within.ensures, c.if-within.true) c.within-then-within.ensures

pub returns-else-within : goal.returns-else-within
unfolding allow_of
returns-else-within c = rw (← c.within.ensures, c.if-within.false)
