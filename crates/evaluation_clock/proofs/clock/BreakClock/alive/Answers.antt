-- `evaluation_clock::clock::BreakClock::alive` meets its contract. Assumes nothing.
use Rattle.evaluation_clock.specs.Clock.{alive_of}
use Rattle.evaluation_clock.proofs.clock.BreakClock.alive.Goals as goal

pub returns-then-is_some : goal.returns-then-is_some
unfolding alive_of
returns-then-is_some c = rw (← c.is_some.ensures, c.if-is_some.true)

pub returns-else-is_some : goal.returns-else-is_some
unfolding alive_of
returns-else-is_some c = rw (← c.is_some.ensures, c.if-is_some.false) c.is_some-else-is_some.ensures
