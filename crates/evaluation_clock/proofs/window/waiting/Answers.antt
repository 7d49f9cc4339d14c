-- `evaluation_clock::window::waiting` meets its contract. Assumes nothing.
use Rattle.evaluation_clock.specs.Window.{waiting_of}
use Rattle.evaluation_clock.proofs.window.waiting.Goals as goal

pub returns-then-arrival-ready : goal.returns-then-arrival-ready
unfolding waiting_of
returns-then-arrival-ready c = rw c.if-arrival-ready.true

pub returns-else-arrival-ready : goal.returns-else-arrival-ready
unfolding waiting_of
returns-else-arrival-ready c = rw c.if-arrival-ready.false
