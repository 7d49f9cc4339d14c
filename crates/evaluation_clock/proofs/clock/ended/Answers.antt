-- `evaluation_clock::clock::ended` meets its contract. Assumes nothing.
use Rattle.evaluation_clock.specs.Clock.{end_of}
use Rattle.evaluation_clock.proofs.clock.ended.Goals as goal

pub returns : goal.returns
unfolding end_of
returns c = rw (c.in_ok-l.was, c.home.ensures)

pub returns-in_err-l : goal.returns-in_err-l
unfolding end_of
returns-in_err-l c = rw c.in_err-l.was c.from_residual.ensures
