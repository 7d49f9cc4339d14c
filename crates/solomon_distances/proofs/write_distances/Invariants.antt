-- `solomon_distances::write_distances` meets its contract. Assumes nothing.
use Prim.Native.Nat.{◌-◌}
use Rattle.solomon_distances.proofs.Filling.{Filling}
use Rattle.solomon_distances.proofs.write_distances.Given as goal

abbrev pub invariant-loop-k : goal.invariant-loop-k
invariant-loop-k l = Filling l.initial.sheet l.rows l.at l.sheet l.k

abbrev pub decreases-loop-k : goal.decreases-loop-k
decreases-loop-k l = l.k-end - l.k
