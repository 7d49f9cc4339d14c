-- `evaluation::schedule::walk_home` meets its contract. Assumes nothing.
use mathlib.Core.Path.{sym}
use Rattle.evaluation_clock.specs.Clock.{unrested, returned}
use Rattle.evaluation.specs.Walk.{home_from}
use Rattle.evaluation.specs.Laws.Walk.{dead_home}
use Rattle.evaluation.proofs.schedule.walk_home.Goals as goal

pub returns-in_err-end : goal.returns-in_err-end
returns-in_err-end c = rw c.from_residual.ensures (λ place. sym (dead_home _ _ _ (c.in_err-end.ensures.stands place)))

pub returns : goal.returns
unfolding home_from returned unrested
returns c = rw (c.home.ensures, c.label.ensures, c.travel_time-back.ensures, c.distance.ensures) (λ place. rw (c.in_ok-end.ensures.stands place))
