-- `evaluation::home::sooner` meets its contract. Assumes nothing.
use Rattle.evaluation.specs.Soonest.{sooner_of}
use Rattle.evaluation.proofs.Soonest.{home_sooner}
use Rattle.evaluation.proofs.home.sooner.Goals.{else-from-rest-via-then-from-rest+else-outlasts, else-from-rest-via-else-from-rest}
use Rattle.evaluation.proofs.home.sooner.Goals as goal

pub returns-then-outlasts : goal.returns-then-outlasts
returns-then-outlasts c = home_sooner _ _ _ _ _ _ _ c.later-from.ensures c.if-from-rest.true c.outlasts.ensures c.if-outlasts.true c.rested.ensures

pub returns : goal.returns
unfolding sooner_of
returns c = elim c.else-from-rest.branch [
  | else-from-rest-via-then-from-rest+else-outlasts w ↦ rw (← c.later-from.ensures, w.if-from-rest.true, ← w.outlasts.ensures, w.if-outlasts.false)
  | else-from-rest-via-else-from-rest w ↦ rw (← c.later-from.ensures, w.if-from-rest.false)
]
