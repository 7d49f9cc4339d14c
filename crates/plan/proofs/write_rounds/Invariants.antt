-- `plan::write_rounds` meets its contract. Assumes nothing.
use Prim.Native.Nat.{◌-◌}
use Rattle.plan.proofs.Counting.{Counting}
use Rattle.plan.proofs.write_rounds.Given as goal

abbrev pub invariant-loop-k : goal.invariant-loop-k
invariant-loop-k l = Counting l.sheet l.tables.stops.now l.tables.ends.now l.tables.vehicles.now l.rounds l.initial.plan l.plan l.cost l.k

abbrev pub decreases-loop-k : goal.decreases-loop-k
decreases-loop-k l = l.rounds - l.k
