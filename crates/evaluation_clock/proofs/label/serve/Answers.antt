-- `evaluation_clock::label::serve` meets its contract. Assumes nothing.
use Rattle.evaluation_clock.specs.Serve.{serve_of}
use Rattle.evaluation_clock.proofs.label.serve.Goals as goal

pub returns : goal.returns
unfolding serve_of
returns c = c.visit.ensures
