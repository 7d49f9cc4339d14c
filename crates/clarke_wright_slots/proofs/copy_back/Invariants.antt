-- `clarke_wright_slots::copy_back` meets its contract. Assumes nothing.
use Prim.Native.Nat.{◌-◌}
use Rattle.clarke_wright_slots.proofs.Copying.{CopyingBack}
use Rattle.clarke_wright_slots.proofs.copy_back.Given as goal

abbrev pub invariant-loop-i : goal.invariant-loop-i
invariant-loop-i l = CopyingBack l.route l.initial.to l.n l.to l.i

abbrev pub decreases-loop-i : goal.decreases-loop-i
decreases-loop-i l = l.n - l.i
