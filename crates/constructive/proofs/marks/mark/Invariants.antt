-- `constructive::marks::mark` meets its contract. Assumes nothing.
use Prim.Native.Nat.{◌-◌}
use Rattle.constructive.proofs.Marking.{Marking}
use Rattle.constructive.proofs.marks.mark.Given as goal

abbrev pub invariant-loop-i : goal.invariant-loop-i
invariant-loop-i l = Marking l.stops l.from l.total l.initial.marks l.marks l.i

abbrev pub decreases-loop-i : goal.decreases-loop-i
decreases-loop-i l = l.total - l.i
