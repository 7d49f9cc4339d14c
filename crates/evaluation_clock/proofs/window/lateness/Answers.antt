-- `evaluation_clock::window::lateness` meets its contract. Assumes nothing.
use Rattle.evaluation_clock.specs.Window.{lateness_of}
use Rattle.evaluation_clock.proofs.window.lateness.Goals as goal

pub returns-then-late : goal.returns-then-late
unfolding lateness_of
returns-then-late c = rw c.if-late.true

pub returns-else-late : goal.returns-else-late
unfolding lateness_of
returns-else-late c = rw c.if-late.false
