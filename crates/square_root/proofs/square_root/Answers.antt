-- `square_root::square_root` meets its contract (`Rounding.antt`). Assumes nothing.
use mathlib.Core.Path.{◌≡◌, sym, subst}
use Prim.Native.Nat.{ℕ, ◌+◌, ◌^◌, ◌<◌}
use native.Mathlib.Nat.{lt_of_le_of_lt}
use native.Mathlib.Omega.{arith}
use lib.Dec.{le→leb, lit≤}
use lib.Ieee.{in_float, of_bits, round, of_fields, odd, binary64}
use Rattle.square_root.specs.ClosestRoot.{ClosestRoot}
use Rattle.square_root.specs.Laws.Closest.{whole_closest}
use Rattle.square_root.specs.Laws.Squares.{root_lt}
use Rattle.square_root.proofs.Rounding.{scaled_full, scaled_by, longer_small, rounded}
use Rattle.square_root.proofs.square_root.Goals as goal

pub returns-then-n-eq0 : goal.returns-then-n-eq0
unfolding of_bits of_fields odd round
returns-then-n-eq0 c = let z : c.args.n ≡ 0 = omega arith in subst (λ (n : ℕ). ClosestRoot n (of_bits binary64 0)) (sym z) (whole_closest 0 (lit≤ tt))

pub overflow_mul-scaled-2 : goal.overflow_mul-scaled-2
overflow_mul-scaled-2 c = let s = scaled_by c.args.n (omega arith) (omega arith) in omega (arith, s.small)

pub whole_root-requires : goal.whole_root-requires
whole_root-requires c = (scaled_by c.args.n (omega arith) (omega arith)).least

pub longer_root-r-requires : goal.longer_root-r-requires
longer_root-r-requires c =
    let l : 2 ^ 31 < c.whole_root.result + 1 = root_lt (2 ^ 31) (c.whole_root.result + 1) (lt_of_le_of_lt (scaled_full c.args.n (omega arith) (omega arith)) c.whole_root.ensures.1) in
    (c.whole_root.ensures.0, c.whole_root.ensures.1, omega arith)

pub overflow_add-result : goal.overflow_add-result
overflow_add-result c =
    let s = scaled_by c.args.n (omega arith) (omega arith) in
    omega (arith, longer_small _ _ s.small c.longer_root-r.ensures)

pub int_to_float-result : goal.int_to_float-result
unfolding in_float
int_to_float-result c =
    let s = scaled_by c.args.n (omega arith) (omega arith) in
    omega (arith, le→leb, longer_small _ _ s.small c.longer_root-r.ensures)

pub returns : goal.returns
returns c =
    rounded _ _ _ _ _ _ (scaled_by c.args.n (omega arith) (omega arith)) (scaled_full c.args.n (omega arith) (omega arith)) c.longer_root-r.ensures (omega arith) (omega arith) (omega arith)
