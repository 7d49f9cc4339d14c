-- `solomon_i1::seed::farthest` meets its contract. Assumes nothing.
use Rattle.solomon_i1.proofs.Seeking.{is_farther, no_farther, found}
use Rattle.solomon_i1.proofs.seed.farthest.Goals.{then-most-distance, else-most-distance}
use Rattle.solomon_i1.proofs.seed.farthest.Goals as goal

pub loop-j-preserved : goal.loop-j-preserved
loop-j-preserved c =
    elim c.if-most-distance.branch [
      | then-most-distance w ↦ rw (w.place-is, w.most-is) (is_farther _ _ _ _ _ _ _ c.loop-j.invariant c.loop-j-test.true _ c.distance-distance.ensures w.if-most-distance.true)
      | else-most-distance w ↦ rw (w.place-is, w.most-is) (no_farther _ _ _ _ _ _ _ c.loop-j.invariant c.loop-j-test.true _ c.distance-distance.ensures w.if-most-distance.false)
    ]

pub returns : goal.returns
returns c = found _ _ _ _ _ _ _ c.loop-j.invariant c.loop-j-test.false
