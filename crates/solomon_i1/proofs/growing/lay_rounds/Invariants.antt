-- `solomon_i1::growing::lay_rounds` meets its contract. Assumes nothing.
use Prim.Native.Nat.{◌-◌}
use Rattle.constructive.specs.Lent.{Lent}
use Rattle.solomon_i1.proofs.Laying.{Laying}
use Rattle.solomon_i1.proofs.growing.lay_rounds.Given as goal

abbrev pub invariant-loop-at : goal.invariant-loop-at
invariant-loop-at l = Lent l.initial.tables l.tables × Laying l.sheet l.terms l.initial.tables.stops.now l.initial.tables.ends.now l.initial.tables.vehicles.now l.initial.trial l.initial.done l.total l.tables.stops.now l.tables.ends.now l.tables.vehicles.now l.trial l.done l.at l.end

abbrev pub decreases-loop-at : goal.decreases-loop-at
decreases-loop-at l = l.end - l.at
