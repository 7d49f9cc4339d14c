-- `multi_depot_planning::plan_depots` meets its contract. Assumes nothing.
use Rattle.constructive.specs.Lent.{Lent}
use Rattle.constructive.specs.Tables.{AsLong}
use Rattle.multi_depot_offers.specs.ByDepot.{planned_upto}
use Rattle.multi_depot_offers.specs.Promises.{Planned}
use Rattle.multi_depot_planning.proofs.plan_depots.Given as goal

abbrev pub invariant-loop-depot : goal.invariant-loop-depot
invariant-loop-depot l = record {
  as_long : AsLong l.initial.tables.stops.now l.initial.tables.ends.now l.initial.tables.vehicles.now l.tables.stops.now l.tables.ends.now l.tables.vehicles.now;
  lent : Lent l.initial.tables l.tables;
  planned : Planned l.sheet l.marks l.tables.stops.now l.tables.ends.now l.tables.vehicles.now l.filled (planned_upto l.sheet l.at l.depot);
}
