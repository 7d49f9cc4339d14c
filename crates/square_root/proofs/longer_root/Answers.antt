-- `square_root::longer_root` meets its contract (`Digits.antt`). Assumes nothing.
use native.Mathlib.Omega.{arith}
use Rattle.square_root.proofs.Digits.{digits_lowered}
use Rattle.square_root.proofs.longer_root.Goals as goal

pub returns-then-left-r : goal.returns-then-left-r
returns-then-left-r c = digits_lowered c.args.n c.args.r c.requires _ (omega arith) (omega arith)
