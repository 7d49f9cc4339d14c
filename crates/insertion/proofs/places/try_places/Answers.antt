-- `insertion::places::try_places` meets its contract. Assumes nothing.
use native.Mathlib.Omega.{arith}
use Rattle.insertion.proofs.Placing.{places, placed}
use Rattle.insertion.proofs.places.try_places.Goals as goal

pub loop-k-preserved : goal.loop-k-preserved
loop-k-preserved b c = let p = c.try_place-next.ensures in rw c.rebuilt-done.ensures (places _ _ _ _ _ _ _ _ _ _ c.loop-k.invariant.0 _ _ c.loop-k-test.true p.choice_value p.trial_2, (p.knows_2.0, omega (arith, p.knows_2.1)))

pub returns-clause-choice_value : goal.returns-clause-choice_value
returns-clause-choice_value b c = placed _ _ _ _ _ _ _ _ _ _ c.loop-k.invariant.0 c.loop-k-test.false
