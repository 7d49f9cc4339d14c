-- `evaluation::home::mends` meets its contract. Assumes nothing.
use Rattle.evaluation.specs.Verdict.{mends}
use Rattle.evaluation.proofs.home.mends.Goals as goal

pub returns-then-begun-rest : goal.returns-then-begun-rest
unfolding mends
returns-then-begun-rest c = rw (← c.later-begun.ensures, c.if-begun-rest.true) c.allow.ensures

pub returns-else-begun-rest : goal.returns-else-begun-rest
unfolding mends
returns-else-begun-rest c = rw (← c.later-begun.ensures, c.if-begun-rest.false)
