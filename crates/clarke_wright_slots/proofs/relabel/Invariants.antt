-- `clarke_wright_slots::relabel` meets its contract. Assumes nothing.
use Rattle.clarke_wright_slots.proofs.Relabelling.{Relabelling}
use Rattle.clarke_wright_slots.proofs.relabel.Given as goal

abbrev pub invariant-loop-row : goal.invariant-loop-row
invariant-loop-row l = Relabelling l.initial.slots l.route l.slot l.slots l.row-index
