-- `clarke_wright_slots::RouteSlots::start` meets its contract. Assumes nothing.
use lib.ListN.{length}
use Rattle.clarke_wright_slots.specs.Slots.{SlotsAsLong}
use Rattle.clarke_wright_slots.specs.Lent.{SlotsLent}
use Rattle.clarke_wright_slots.proofs.StartingRoutes.{Starting}
use Rattle.clarke_wright_slots.proofs.RouteSlots.start.Given as goal

abbrev pub invariant-loop-k : goal.invariant-loop-k
invariant-loop-k l = record {
  lent : SlotsLent l.fn.self l.self;
  as_long : SlotsAsLong l.fn.self.cells.now l.fn.self.lens.now l.fn.self.loads.now l.fn.self.slots.now l.self.cells.now l.self.lens.now l.self.loads.now l.self.slots.now;
  starting : Starting l.sheet l.terms l.members l.initial.aside (length l.members) l.self.cells.now l.self.lens.now l.self.loads.now l.self.slots.now l.aside l.end l.k;
}
