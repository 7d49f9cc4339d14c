-- `evaluation_clock::label::serve_rested` meets its contract. Assumes nothing.
use Rattle.evaluation_clock.specs.Serve.{serve_rested}
use Rattle.evaluation_clock.proofs.label.serve_rested.Goals as goal

pub returns-then-rest-start : goal.returns-then-rest-start
unfolding serve_rested
returns-then-rest-start c = simp (← c.later-start.ensures, c.if-rest-start.true)

pub returns : goal.returns
unfolding serve_rested
returns c = rw (← c.later-start.ensures, c.if-rest-start.false, ← c.rested.ensures) c.visit.ensures
