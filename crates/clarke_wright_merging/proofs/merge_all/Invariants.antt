-- `clarke_wright_merging::merge_all` meets its contract. Assumes nothing.
use mathlib.Core.Path.{◌≡◌}
use lib.ListN.{length}
use Rattle.clarke_wright_slots.specs.Slots.{SlotsAsLong}
use Rattle.clarke_wright_slots.specs.Lent.{SlotsLent}
use Rattle.clarke_wright_merging.proofs.Merging.{Merging}
use Rattle.clarke_wright_merging.proofs.merge_all.Given as goal

abbrev pub invariant-loop-entry : goal.invariant-loop-entry
invariant-loop-entry l = record {
  counted : l.slots.count ≡ l.initial.slots.count;
  merging : Merging l.sheet l.terms l.initial.slots.count l.from l.to l.entries l.initial.slots.cells.now l.initial.slots.lens.now l.slots.cells.now l.slots.lens.now l.slots.loads.now l.slots.slots.now l.entry-index;
  long : length l.trial ≡ 101;
  as_long : SlotsAsLong l.initial.slots.cells.now l.initial.slots.lens.now l.initial.slots.loads.now l.initial.slots.slots.now l.slots.cells.now l.slots.lens.now l.slots.loads.now l.slots.slots.now;
  lent : SlotsLent l.initial.slots l.slots;
}
