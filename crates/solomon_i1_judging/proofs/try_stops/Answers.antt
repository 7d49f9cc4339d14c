-- `solomon_i1_judging::try_stops` meets its contract. Assumes nothing.
use Rattle.solomon_i1_judging.proofs.Choosing.{stops, stopped}
use Rattle.solomon_i1_judging.proofs.try_stops.Goals as goal

pub loop-j-preserved : goal.loop-j-preserved
loop-j-preserved c = rw c.rebuilt-tried.ensures (stops _ _ _ _ _ _ _ _ c.loop-j.invariant _ _ c.loop-j-test.true c.try_stop-next.ensures.choice_value c.try_stop-next.ensures.trial_2)

pub returns : goal.returns
returns c = stopped _ _ _ _ _ _ _ _ c.loop-j.invariant c.loop-j-test.false
