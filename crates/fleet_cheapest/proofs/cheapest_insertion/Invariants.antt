-- `fleet_cheapest::cheapest_insertion` meets its contract. Assumes nothing.
use Prim.Native.Nat.{◌-◌}
use Rattle.fleet_cheapest.proofs.Rounds.{Inserting}
use Rattle.fleet_cheapest.proofs.cheapest_insertion.Given as goal

abbrev pub invariant-loop-i : goal.invariant-loop-i
invariant-loop-i l = Inserting l.sheet l.tables.stops.now l.tables.ends.now l.tables.vehicles.now l.n l.windows.soft l.row l.initial.trial l.trial l.best l.i

abbrev pub decreases-loop-i : goal.decreases-loop-i
decreases-loop-i l = l.n - l.i
