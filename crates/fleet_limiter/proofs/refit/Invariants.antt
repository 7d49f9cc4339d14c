-- `fleet_limiter::refit` meets its contract. Assumes nothing.
use lib.ListN.{length}
use Rattle.constructive.specs.Outcome.{outcome_in}
use Rattle.constructive.specs.Lent.{Lent}
use Rattle.constructive.specs.Tables.{AsLong}
use Rattle.fleet_limiter.proofs.Refitting.{Refitting}
use Rattle.fleet_limiter.proofs.refit.Given as goal

abbrev pub invariant-loop-j : goal.invariant-loop-j
invariant-loop-j l = record {
  as_long : AsLong l.initial.tables.stops.now l.initial.tables.ends.now l.initial.tables.vehicles.now l.tables.stops.now l.tables.ends.now l.tables.vehicles.now;
  refitting : Refitting l.sheet l.windows.soft l.initial.tables.stops.now l.initial.tables.ends.now l.initial.tables.vehicles.now l.n l.total l.tables.stops.now l.tables.ends.now l.tables.vehicles.now;
  lent : Lent l.initial.tables l.tables;
}

abbrev pub decreases-loop-j : goal.decreases-loop-j
decreases-loop-j l = length (outcome_in l.tables.stops.now l.tables.ends.now l.tables.vehicles.now l.n l.total).aside
