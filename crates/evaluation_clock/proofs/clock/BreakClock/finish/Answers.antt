-- `evaluation_clock::clock::BreakClock::finish` meets its contract. Assumes nothing.
use Rattle.evaluation_clock.specs.Clock.{homeward, returned}
use Rattle.evaluation_clock.proofs.clock.BreakClock.finish.Goals as goal

pub returns-in_default : goal.returns-in_default
unfolding returned homeward
returns-in_default c = rw (c.in_default.is, ← c.travel_time-back.ensures) c.ended.ensures

pub returns-then-l-back : goal.returns-then-l-back
unfolding returned homeward
returns-then-l-back c = rw (c.in-Some.is, ← c.travel_time-back.ensures, c.if-l-back.true, c.home.ensures)

pub returns : goal.returns
unfolding returned homeward
returns c = rw (c.in-Some.is, ← c.travel_time-back.ensures, c.if-l-back.false) c.ended-2.ensures
