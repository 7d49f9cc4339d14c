-- `probe::asked::rows_right` meets its contract. Assumes nothing.
use mathlib.Core.Path.{◌≡◌}
use Prim.Native.Nat.{ℕ}
use lib.Dec.{ltb}
use lib.ListN.{get_or}
use Rattle.numbers.specs.All.{all}
use Rattle.probe.proofs.asked.rows_right.Given as goal

abbrev pub invariant-loop-stop : goal.invariant-loop-stop
invariant-loop-stop l = l.right ≡ all (λ (j : ℕ). ltb (get_or l.stops j 0) l.rows) l.stop-index
