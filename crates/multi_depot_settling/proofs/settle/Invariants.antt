-- `multi_depot_settling::settle` meets its contract. Assumes nothing.
use mathlib.Core.Path.{◌≡◌}
use mathlib.Core.Bool.{false}
use Rattle.constructive.specs.Marks.{Marks}
use Rattle.constructive.specs.Lent.{Lent}
use Rattle.constructive.specs.Tables.{AsLong}
use Rattle.multi_depot_offers.specs.ByDepot.{planned_at}
use Rattle.multi_depot_offers.specs.Laws.Settled.{attempts_left}
use Rattle.multi_depot_settling.specs.Promises.{Untouched}
use Rattle.multi_depot_settling.proofs.Settling.{Settling}
use Rattle.multi_depot_settling.proofs.settle.Given as goal

abbrev pub invariant-offers : goal.invariant-offers
invariant-offers l = record {
  as_long : AsLong l.initial.tables.stops.now l.initial.tables.ends.now l.initial.tables.vehicles.now l.tables.stops.now l.tables.ends.now l.tables.vehicles.now;
  lent : Lent l.initial.tables l.tables;
  settling : Settling l.sheet l.at;
  marks : Marks l.sheet l.marks (planned_at l.sheet l.at).aside;
  untouched : l.any ≡ false → Untouched l.initial.at l.initial.marks l.initial.tables.stops.now l.initial.tables.ends.now l.initial.tables.vehicles.now l.at l.marks l.tables.stops.now l.tables.ends.now l.tables.vehicles.now;
}

abbrev pub decreases-offers : goal.decreases-offers
decreases-offers l = attempts_left l.sheet l.at
