-- `constructive::marks::mark` meets its contract. Assumes nothing.
use native.Mathlib.Omega.{arith}
use Rattle.constructive.proofs.Marking.{goes_on, ends}
use Rattle.constructive.proofs.marks.mark.Goals as goal

pub loop-i-preserved : goal.loop-i-preserved
loop-i-preserved c = goes_on _ _ _ _ _ _ c.loop-i.invariant (omega arith) c.requires.total_in_bounds

pub returns : goal.returns
returns c = ends _ _ _ _ _ _ c.loop-i.invariant (omega arith)
