-- `square_root::whole_root` meets its contract: r is never below the root, and falls until its square is not above n (`Newton.antt`). Assumes nothing.
use Prim.Native.Nat.{◌+◌, ◌/◌}
use lib.Dec.{lit≤}
use native.Mathlib.Omega.{arith}
use Rattle.square_root.proofs.Newton.{step_not_below, root_some}
use Rattle.square_root.proofs.whole_root.Goals as goal

pub loop-r-init : goal.loop-r-init
loop-r-init c = (step_not_below c.args.n 0xc000_0000 _ (lit≤ tt) (omega arith), omega arith, omega arith)

pub loop-r-preserved : goal.loop-r-preserved
loop-r-preserved c = let h = step_not_below c.args.n c.loop-r.r ((c.loop-r.r + c.args.n / c.loop-r.r) / 2) c.loop-r.invariant.1 (omega arith) in
    (h, root_some _ _ c.requires h, omega arith)
