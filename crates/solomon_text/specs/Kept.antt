-- What is kept in 64 bits of a whole number of any length.
use Rattle.std.specs.Prelude.{◌≡◌, ◌⊎◌, ℕ, ◌^◌, ◌≤◌, Bool, not, ℤ, nat_abs}
use Rattle.std.specs.Int.Signed.{non_neg}

-- a size is kept as it is, or as one too large if it is too large
abbrev pub Kept : ℕ → ℕ → Type 0
Kept size kept = (kept ≡ size) ⊎ ((10 ^ 19 ≤ size) × (10 ^ 19 ≤ kept))

-- a number, by its sign and what is kept of its size
pub record KeptNumber (z : ℤ) (negative : Bool) (kept : ℕ) : Type 0 where
  pub sign : negative ≡ not (non_neg z)
  pub size : Kept (nat_abs z) kept
