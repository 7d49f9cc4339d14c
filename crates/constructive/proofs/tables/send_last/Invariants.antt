-- `constructive::tables::send_last` meets its contract. Assumes nothing.
use Prim.Native.Nat.{◌-◌}
use Rattle.constructive.proofs.Sending.{Sending}
use Rattle.constructive.proofs.tables.send_last.Given as goal

abbrev pub invariant-loop-i : goal.invariant-loop-i
invariant-loop-i l = Sending l.initial.stops l.from l.stops l.i l.last

abbrev pub decreases-loop-i : goal.decreases-loop-i
decreases-loop-i l = l.last - l.i
