-- `insertion::places::try_places` meets its contract. Assumes nothing.
use Prim.Native.Nat.{◌-◌, ◌≤◌}
use Rattle.insertion.proofs.Placing.{Placing}
use Rattle.insertion.proofs.places.try_places.Given as goal

abbrev pub invariant-loop-k : goal.invariant-loop-k
invariant-loop-k b l = Placing l.sheet l.terms l.route l.j l.row l.initial.done.tried l.done.tried l.trial l.k l.k-end × (b.W.Walker.knows l.sheet l.terms.depot l.terms.limits l.route l.done.walk × (b.W.Walker.reach l.done.walk ≤ l.k))

abbrev pub decreases-loop-k : goal.decreases-loop-k
decreases-loop-k b l = l.k-end - l.k
