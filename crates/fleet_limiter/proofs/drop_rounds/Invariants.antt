-- `fleet_limiter::drop_rounds` meets its contract. Assumes nothing.
use Rattle.constructive.specs.Lent.{Lent}
use Rattle.constructive.specs.Tables.{AsLong}
use Rattle.fleet_limiter.proofs.DroppingRounds.{DroppingRounds}
use Rattle.fleet_limiter.proofs.drop_rounds.Given as goal

abbrev pub invariant-loop-n : goal.invariant-loop-n
invariant-loop-n l = record {
  as_long : AsLong l.initial.tables.stops.now l.initial.tables.ends.now l.initial.tables.vehicles.now l.tables.stops.now l.tables.ends.now l.tables.vehicles.now;
  dropping : DroppingRounds l.sheet l.windows.soft l.greatest l.initial.tables.stops.now l.initial.tables.ends.now l.initial.tables.vehicles.now l.rounds l.total l.tables.stops.now l.tables.ends.now l.tables.vehicles.now l.n;
  lent : Lent l.initial.tables l.tables;
}

abbrev pub decreases-loop-n : goal.decreases-loop-n
decreases-loop-n l = l.n
