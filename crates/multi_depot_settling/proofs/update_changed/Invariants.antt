-- `multi_depot_settling::update_changed` meets its contract. Assumes nothing.
use Rattle.constructive.specs.Lent.{Lent}
use Rattle.constructive.specs.Tables.{AsLong}
use Rattle.multi_depot_settling.proofs.UpdatingMarks.{UpdatingMarks}
use Rattle.multi_depot_settling.proofs.update_changed.Given as goal

abbrev pub invariant-loop-depot : goal.invariant-loop-depot
invariant-loop-depot l = record {
  as_long : AsLong l.initial.tables.stops.now l.initial.tables.ends.now l.initial.tables.vehicles.now l.tables.stops.now l.tables.ends.now l.tables.vehicles.now;
  lent : Lent l.initial.tables l.tables;
  updating : UpdatingMarks l.sheet l.before l.at l.marks l.depot;
}
