-- `square_root::whole_root` meets its contract: r is never below the root, and falls until its square is not above n (`Newton.antt`). Assumes nothing.
use Prim.Native.Nat.{◌+◌, ◌*◌, ◌≤◌, ◌<◌}
use Rattle.square_root.proofs.whole_root.Given as goal

abbrev pub invariant-loop-r : goal.invariant-loop-r
invariant-loop-r l = (l.n < (l.r + 1) * (l.r + 1)) × (1 ≤ l.r) × (l.r ≤ 0x2_0000_0000)

abbrev pub decreases-loop-r : goal.decreases-loop-r
decreases-loop-r l = l.r
