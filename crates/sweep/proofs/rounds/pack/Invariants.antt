-- `sweep::rounds::pack` meets its contract. Assumes nothing.
use Prim.Native.Nat.{◌-◌}
use Rattle.constructive.specs.Lent.{Lent}
use Rattle.sweep.proofs.Filling.{Filling}
use Rattle.sweep.proofs.rounds.pack.Given as goal

abbrev pub invariant-loop-packing : goal.invariant-loop-packing
invariant-loop-packing l = Lent l.initial.tables l.tables × Filling l.sheet l.terms l.initial.tables.stops.now l.initial.tables.ends.now l.initial.tables.vehicles.now l.initial.packing.filled l.total l.tables.stops.now l.tables.ends.now l.tables.vehicles.now l.packing

abbrev pub decreases-loop-packing : goal.decreases-loop-packing
decreases-loop-packing l = l.packing.mid - l.packing.end
