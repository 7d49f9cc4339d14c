-- `evaluation_clock::label::step_rested` meets its contract. Assumes nothing.
use Rattle.evaluation_clock.specs.Clock.{step_rested}
use Rattle.evaluation_clock.proofs.label.step_rested.Goals as goal

pub returns-in_err-from : goal.returns-in_err-from
unfolding step_rested
returns-in_err-from c = rw c.in_err-from.was c.from_residual.ensures

pub returns : goal.returns
unfolding step_rested
returns c = rw c.in_ok-from.was c.serve_rested.ensures
