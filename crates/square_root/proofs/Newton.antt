-- Newton's iteration for the root of n: a step from any r above 0 leads to a number that is not below the root, and from one above the root to a smaller one. Assumes nothing.
use mathlib.Core.Path.{subst}
use Prim.Native.Nat.{ℕ, zero, suc, ◌+◌, ◌*◌, ◌/◌, ◌≤◌, ◌<◌}
use native.Mathlib.Nat.{mul-le-mul_right, div-lt_iff_lt-mul, lt_of_not-le, le_dest}
use native.Mathlib.Decide.{dec_le}
use native.Mathlib.Omega.{arith}

-- twice a product is at most the sum of the squares
products : (a b : ℕ) → 2 * (a * b) ≤ a * a + b * b
products a b = go (dec_le a b)
  where
    apart : (a b : ℕ) → a ≤ b → 2 * (a * b) ≤ a * a + b * b
    apart a b h = let d = le_dest h in subst (λ (z : ℕ). 2 * (a * z) ≤ a * a + z * z) d.1 (more a d.0)
      where
        more : (a d : ℕ) → 2 * (a * (a + d)) ≤ a * a + (a + d) * (a + d)
        more a d = omega arith

    go : Dec (a ≤ b) → 2 * (a * b) ≤ a * a + b * b
    go (yes h) = apart a b h
    go (no f) = let g : 2 * (b * a) ≤ b * b + a * a = apart b a (let l : b < a = lt_of_not-le f in omega arith) in omega arith

-- the next guess s is not below the mean of r and n / r, rounded down
pub step_not_below : (n r s : ℕ) → 1 ≤ r → r + n / r ≤ 2 * s + 1 → n < (s + 1) * (s + 1)
step_not_below n r s R h = at (n / r) ((div-lt_iff_lt-mul {y = n / r + 1} R).0 (omega arith)) h
  where
    at : (q : ℕ) → n < (q + 1) * r → r + q ≤ 2 * s + 1 → n < (s + 1) * (s + 1)
    at q g h =
        let k : (r + q + 1) * r ≤ 2 * (s + 1) * r = mul-le-mul_right r (omega arith) in
        let l : 2 * ((s + 1) * r) ≤ (s + 1) * (s + 1) + r * r = products (s + 1) r in
        omega arith

pub root_some : (n r : ℕ) → 1 ≤ n → n < (r + 1) * (r + 1) → 1 ≤ r
root_some n zero h g = absurd (omega arith)
root_some n (suc r) h g = omega arith
