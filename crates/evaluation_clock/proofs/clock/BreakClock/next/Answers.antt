-- `evaluation_clock::clock::BreakClock::next` meets its contract. Assumes nothing.
use Rattle.evaluation_clock.specs.Clock.{taken_of, moved_of}
use Rattle.evaluation_clock.proofs.clock.BreakClock.next.Goals as goal

pub returns : goal.returns
unfolding moved_of taken_of
returns c = rw (c.earlier-taken.ensures, c.step-carried.ensures, c.step_rested-here.ensures, c.step-skipped.ensures, c.stop_at-stop.ensures, c.travel_time-travel.ensures)
