-- `fleet_cheapest::cheapest` meets its contract. Assumes nothing.
use mathlib.Core.Path.{◌≡◌}
use lib.ListN.{length}
use Rattle.constructive.specs.Outcome.{rounds_in}
use Rattle.fleet_cheapest.proofs.Pending.{Picking}
use Rattle.fleet_cheapest.proofs.cheapest.Given as goal

abbrev pub invariant-loop-j : goal.invariant-loop-j
invariant-loop-j l = record {
  picking : Picking l.sheet l.windows.soft (rounds_in l.tables.stops.now l.tables.ends.now l.tables.vehicles.now l.n 0 0) l.pending l.best l.j l.j-end;
  long : length l.trial ≡ 101;
}
