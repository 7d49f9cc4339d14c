-- `evaluation_clock::label::step` meets its contract. Assumes nothing.
use Rattle.evaluation_clock.specs.Clock.{step_of}
use Rattle.evaluation_clock.proofs.label.step.Goals as goal

pub returns-in_err-from : goal.returns-in_err-from
unfolding step_of
returns-in_err-from c = rw c.in_err-from.was c.from_residual.ensures

pub returns : goal.returns
unfolding step_of
returns c = rw c.in_ok-from.was c.serve.ensures
