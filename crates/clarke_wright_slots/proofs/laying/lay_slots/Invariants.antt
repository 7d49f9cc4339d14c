-- `clarke_wright_slots::laying::lay_slots` meets its contract. Assumes nothing.
use Prim.Native.Nat.{◌-◌}
use Rattle.constructive.specs.Lent.{Lent}
use Rattle.clarke_wright_slots.proofs.Rounds.{Filling}
use Rattle.clarke_wright_slots.proofs.laying.lay_slots.Given as goal

abbrev pub invariant-loop-k : goal.invariant-loop-k
invariant-loop-k l = Lent l.initial.tables l.tables × Filling l.count l.cells l.lens l.vehicle l.initial.tables.stops.now l.initial.tables.ends.now l.initial.tables.vehicles.now l.initial.done l.tables.stops.now l.tables.ends.now l.tables.vehicles.now l.done l.k

abbrev pub decreases-loop-k : goal.decreases-loop-k
decreases-loop-k l = l.count - l.k
