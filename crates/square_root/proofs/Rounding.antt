-- The scale of `square_root::square_root`, and the rounding by the last of 54 digits. Assumes nothing.
use mathlib.Core.Path.{◌≡◌, refl, sym, ap, ◌∙◌, subst}
use mathlib.Core.Logic.{◌⊎◌, inl, inr}
use Prim.Native.Nat.{ℕ, suc, ◌+◌, ◌-◌, ◌*◌, ◌/◌, ◌%◌, ◌^◌, ◌≤◌, ◌<◌}
use native.Mathlib.Nat.{le_trans, le_of_eq, lt_of_lt_of_le, lt_of_le_of_lt, le_of_lt, eq-or-lt_of_le, mul-le-mul_right}
use native.Mathlib.Omega.{arith}
use lib.Dec.{lit≤}
use lib.Count.{count_leading_zeros}
use lib.Pow.{pow-add, pow_mono, shl_lt}
use lib.IntN.{pos}
use lib.Ieee.{binary64, of_int}
use lib.Ieee.Fits.{div-fits}
use Rattle.std.proofs.lemmas.Nat.{leading_top, one_shl}
use Rattle.numbers.specs.Laws.Thousandth.{pow_le}
use Rattle.square_root.specs.ClosestRoot.{ClosestRoot}
use Rattle.square_root.specs.Laws.Squares.{square_lt, root_lt}
use Rattle.square_root.specs.Laws.Nearest.{nearest_closest}
use Rattle.square_root.proofs.Digits.{IsRoot}
use Rattle.square_root.proofs.Quotient.{over, over_value}

-- scaled is √n * p squared, and p a power of two
pub record Scaled (n scaled p : ℕ) : Type 0 where
  pub e : ℕ
  pub power : p ≡ 2 ^ e
  pub is : scaled ≡ n * (p * p)
  pub positive : 1 ≤ n
  pub least : 1 ≤ scaled
  pub small : scaled < 2 ^ 64

-- 2 to half the number of leading zeros of n, as the code shifts it
abbrev pub scale : ℕ → ℕ
scale n = 1 * 2 ^ (count_leading_zeros 64 n / 2) % 2 ^ 64

-- its square takes those zeros away, but for one at most
module _ (n : ℕ) (positive : 1 ≤ n) (fits : n < 2 ^ 64) where
  abbrev half : ℕ
  half = count_leading_zeros 64 n / 2

  power : scale n ≡ 2 ^ half
  power = let t = leading_top 64 n positive fits in one_shl half 64 (omega (arith, t.1))

  squared : scale n * scale n ≡ 2 ^ (half + half)
  squared = ap (λ (x : ℕ). x * x) power ∙ sym (pow-add 2 half half)

  scaled_small : n * (scale n * scale n) < 2 ^ 64
  scaled_small =
      let t = leading_top 64 n positive fits in
      subst (λ (x : ℕ). n * x < 2 ^ 64) (sym squared)
      (lt_of_lt_of_le (shl_lt (suc t.0) (half + half) t.3) (pow_mono {i = suc t.0 + (half + half)} {j = 64} (omega (arith, t.1))))

  pub scaled_full : 2 ^ 62 ≤ n * (scale n * scale n)
  scaled_full =
      let t = leading_top 64 n positive fits in
      subst (λ (x : ℕ). 2 ^ 62 ≤ n * x) (sym squared)
      (le_trans (pow_mono {i = 62} {j = t.0 + (half + half)} (omega (arith, t.1)))
      (le_trans (le_of_eq (pow-add 2 t.0 (half + half))) (mul-le-mul_right (2 ^ (half + half)) t.2)))

  pub scaled_by : Scaled n (n * (scale n * scale n)) (scale n)
  scaled_by = record { e = half; power = power; is = refl; positive = positive; least = le_trans (lit≤ tt) scaled_full; small = scaled_small }

power_small : (n scaled p : ℕ) → Scaled n scaled p → p < 2 ^ 32
power_small n scaled p s =
    root_lt p (2 ^ 32)
    (lt_of_le_of_lt (le_trans (let g : 1 * (p * p) ≤ n * (p * p) = mul-le-mul_right (p * p) s.positive in omega arith) (le_of_eq (sym s.is))) s.small)

-- ---- the last digit of r rounds
abbrev Rounds : ℕ → ℕ → Type 0
Rounds m N = ((2 * m - 1) * (2 * m - 1) < 4 * N) × (4 * N < (2 * m + 1) * (2 * m + 1))

-- 4 * N is no odd number's square
rounds : (r m N : ℕ) → 1 ≤ m → r ≤ 2 * m → 2 * m ≤ r + 1 → IsRoot (4 * N) r → Rounds m N
rounds r m N M h g root = go (eq-or-lt_of_le h)
  where
    even : IsRoot (4 * N) (2 * m) → Rounds m N
    even k = (lt_of_lt_of_le (square_lt (2 * m - 1) (2 * m) (omega arith)) k.0, k.1)

    odd : (k : ℕ) → m ≡ k + 1 → IsRoot (4 * N) (2 * k + 1) → Rounds m N
    odd k i l = let e : 2 * m - 1 ≡ 2 * k + 1 = omega arith in (subst (λ (x : ℕ). x * x < 4 * N) (sym e) (omega arith), subst (λ (x : ℕ). 4 * N < (2 * x + 1) * (2 * x + 1)) (sym i) (omega arith))

    go : (r ≡ 2 * m) ⊎ (r < 2 * m) → Rounds m N
    go (inl i) = even (subst (λ (x : ℕ). IsRoot (4 * N) x) i root)
    go (inr l) = let i : r ≡ 2 * (m - 1) + 1 = omega arith in odd (m - 1) (omega arith) (subst (λ (x : ℕ). IsRoot (4 * N) x) i root)

pub longer_small : (scaled r : ℕ) → scaled < 2 ^ 64 → IsRoot (scaled * 2 ^ 44) r → r < 2 ^ 54
longer_small scaled r h g = root_lt r (2 ^ 54) (lt_of_le_of_lt g.0 (omega arith))

longer_large : (scaled r : ℕ) → 2 ^ 62 ≤ scaled → IsRoot (scaled * 2 ^ 44) r → 2 ^ 53 ≤ r
longer_large scaled r h g = let l : 2 ^ 53 < r + 1 = root_lt (2 ^ 53) (r + 1) (lt_of_le_of_lt (omega arith) g.1) in omega arith

-- m is r / 2 rounded up, and q the denominator
pub rounded : (n scaled p r m q : ℕ) → Scaled n scaled p → 2 ^ 62 ≤ scaled → IsRoot (scaled * 2 ^ 44) r → r ≤ 2 * m → 2 * m ≤ r + 1 → q ≡ p * 0x20_0000 → ClosestRoot n (over m q)
rounded n scaled p r m q s least root lo hi denominator =
    subst (λ (x : ℕ). ClosestRoot n (over m x)) (sym power)
    (nearest_closest n (over m (2 ^ (e + 21))) (record {
      m = m;
      e = e + 21;
      full = le_trans (omega arith) (le_of_eq square);
      above_half = subst (λ (x : ℕ). (2 * m - 1) * (2 * m - 1) < 4 * x) square near.0;
      below_half = subst (λ (x : ℕ). 4 * x < (2 * m + 1) * (2 * m + 1)) square near.1;
      number = div-fits binary64 (of_int binary64 (pos m)) (of_int binary64 (pos (2 ^ (e + 21))));
      value = over_value m (e + 21) (omega (arith, longer_large scaled r least root)) (omega (arith, longer_small scaled r s.small root)) (omega (arith, few));
    }))
  where
    e : ℕ
    e = s.e

    power : q ≡ 2 ^ (e + 21)
    power = denominator ∙ ap (λ (x : ℕ). x * 0x20_0000) s.power ∙ sym (pow-add 2 e 21)

    square : scaled * 2 ^ 42 ≡ n * (2 ^ (e + 21) * 2 ^ (e + 21))
    square = (let h : scaled * 2 ^ 42 ≡ n * (p * 0x20_0000 * (p * 0x20_0000)) = omega (arith, s.is) in h) ∙ ap (λ (x : ℕ). n * (x * x)) (sym denominator ∙ power)

    few : e ≤ 32
    few = pow_le e 32 (le_trans (le_of_eq (sym s.power)) (le_of_lt (power_small n scaled p s)))

    near : Rounds m (scaled * 2 ^ 42)
    near = rounds r m (scaled * 2 ^ 42) (omega (arith, longer_large scaled r least root)) lo hi (omega arith, omega arith)
