-- `insertion::places::try_free` meets its contract. Assumes nothing.
use Prim.Native.Nat.{◌-◌}
use Rattle.insertion.proofs.Freely.{Freely}
use Rattle.insertion.proofs.places.try_free.Given as goal

abbrev pub invariant-loop-k : goal.invariant-loop-k
invariant-loop-k l = Freely l.sheet l.terms l.route l.j l.row l.initial.done l.done l.k l.k-end

abbrev pub decreases-loop-k : goal.decreases-loop-k
decreases-loop-k l = l.k-end - l.k
