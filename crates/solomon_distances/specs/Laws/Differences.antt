-- The size of a difference of two integers: it is symmetric, bounded by theirs, and the difference itself where that is not negative. Assumes nothing.
use Rattle.std.specs.Prelude.{◌≡◌, ◌+◌, ◌≤◌, true, false, ℤ, pos, nat_abs, ◌-ℤ◌}
use Rattle.std.proofs.Common.{arith}
use Rattle.std.specs.Int.Signed.{lt_z}
use Rattle.std.proofs.lemmas.Int.{ints}

pub abs_symmetric : (a b : ℤ) → nat_abs (a -ℤ b) ≡ nat_abs (b -ℤ a)
abs_symmetric a b = omega (arith, ints)

-- its bound
pub abs_bounded : (a b : ℤ) → nat_abs (a -ℤ b) ≤ nat_abs a + nat_abs b
abs_bounded a b = omega (arith, ints)

-- the larger less the smaller
pub larger_first : (a b : ℤ) → lt_z a b ≡ false → a -ℤ b ≡ pos (nat_abs (a -ℤ b))
larger_first a b t = omega (arith, ints)

pub larger_last : (a b : ℤ) → lt_z a b ≡ true → b -ℤ a ≡ pos (nat_abs (a -ℤ b))
larger_last a b t = omega (arith, ints)
