-- `plan::write_aside` meets its contract. Assumes nothing.
use mathlib.Core.Path.{◌≡◌}
use lib.ListN.{length}
use Rattle.plan.proofs.Chaining.{Chaining}
use Rattle.plan.proofs.write_aside.Given as goal

abbrev pub invariant-loop-i : goal.invariant-loop-i
invariant-loop-i l = (l.i-end ≡ length l.aside) × Chaining l.sheet l.aside l.initial.plan l.plan l.i
