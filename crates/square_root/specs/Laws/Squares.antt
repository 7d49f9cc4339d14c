-- Squares of whole numbers. Assumes nothing.
use Rattle.std.specs.Prelude.{ℕ, ◌+◌, ◌*◌, ◌≤◌, ◌<◌}
use Rattle.std.proofs.Common.{lt_of_not-le, not-le_of_lt, mul-le-mul, arith}

pub square_le : (a b : ℕ) → a ≤ b → a * a ≤ b * b
square_le a b h = mul-le-mul h h

pub square_lt : (a b : ℕ) → a < b → a * a < b * b
square_lt a b h = let g : (a + 1) * (a + 1) ≤ b * b = square_le (a + 1) b (omega arith) in omega arith

-- the other way
pub root_lt : (a b : ℕ) → a * a < b * b → a < b
root_lt a b h = lt_of_not-le (λ g. not-le_of_lt h (square_le b a g))
