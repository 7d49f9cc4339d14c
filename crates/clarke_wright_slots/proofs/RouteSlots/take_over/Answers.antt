-- `clarke_wright_slots::RouteSlots::take_over` meets its contract. Assumes nothing.
use native.Mathlib.Omega.{arith}
use Rattle.clarke_wright_slots.proofs.Taking.{taken}
use Rattle.clarke_wright_slots.proofs.RouteSlots.take_over.Goals as goal

pub returns-clause-slot_taken : goal.returns-clause-slot_taken
returns-clause-slot_taken c = rw c.copy_from_slice.ensures.after (taken c.args.self.now.cells.now c.args.self.now.lens.now c.args.self.now.loads.now c.args.self.now.slots.now c.args.into c.args.from c.args.stops.now _ (omega (arith, c.requires.roomy, c.requires.stops_len_bound)) c.relabel.ensures)
