-- A whole number up to 2 ^ 53 over a power of two, as two f64 divided, is exact. Assumes nothing.
use mathlib.Core.Path.{◌≡◌, sym, ◌∙◌, subst}
use mathlib.Core.Logic.{◌⊎◌, inl, inr}
use mathlib.Core.Bool.{false}
use Prim.Native.Nat.{ℕ, suc, ◌+◌, ◌-◌, ◌*◌, ◌^◌, ◌≤◌, ◌<◌}
use native.Mathlib.Nat.{lt_of_lt_of_le, eq-or-lt_of_le, mul-one, mul-pos}
use native.Mathlib.Omega.{arith}
use lib.Dec.{T, eqb-suc-zero, lit<, lit≤}
use lib.IntN.{pos}
use lib.Pow.{pow_pos, pow_mono, pow-add, shl_lt}
use lib.Ieee.{Float, fin, binary64, round, div, of_int}
use lib.Ieee.Exact.{HasValue, round_exact}
use lib.Ieee.Positive.{num, den, positive, den_pos, positive_of_value, value→cross}
use lib.Ieee.Scale.{round_same}
use Rattle.numbers.specs.Laws.Upto.{exact}

div_positive : (x y : Float) → T (positive x) → T (positive y) → div binary64 x y ≡ round binary64 false (num x * den y) (num y * den x)
unfolding div
div_positive (fin false m e) (fin false (suc n) d) p q = rw (eqb-suc-zero n)
div_positive lib.Ieee.nan y p q = elim p [ ]
div_positive (lib.Ieee.inf _) y p q = elim p [ ]
div_positive (fin false m e) lib.Ieee.nan p q = elim q [ ]
div_positive (fin false m e) (lib.Ieee.inf _) p q = elim q [ ]
div_positive (fin false m e) (fin false Prim.Native.Nat.zero d) p q = elim q [ ]
div_positive (fin false m e) (fin mathlib.Core.Bool.true _ d) p q = elim q [ ]
div_positive (fin mathlib.Core.Bool.true m e) y p q = elim p [ ]

-- the quotient of two whole numbers is their fraction, rounded
div_whole : (x y : Float) (a b : ℕ) → 0 < a → 0 < b → HasValue x false a 1 → HasValue y false b 1 → div binary64 x y ≡ round binary64 false a b
div_whole x y a b A B h k =
    let ex : num x ≡ a * den x = sym (mul-one (num x)) ∙ value→cross x a 1 h in
    let ey : num y ≡ b * den y = sym (mul-one (num y)) ∙ value→cross y b 1 k in
    div_positive x y (positive_of_value x a 1 h A) (positive_of_value y b 1 k B)
    ∙ round_same binary64 false (num x * den y) (num y * den x) a b (mul-pos (subst (λ (z : ℕ). 0 < z) (sym ey) (mul-pos B (den_pos y))) (den_pos x)) B
    (cross (num x) (num y) (den x) (den y) ex ey)
  where
    cross : (u v c d : ℕ) → u ≡ a * c → v ≡ b * d → u * d * b ≡ a * (v * c)
    cross u v c d h k = rw (h, k) (omega arith)

-- m, which is q * 2 ^ i, over 2 ^ e, for a q of 53 digits
exact_at : (m q i e : ℕ) → m ≡ q * 2 ^ i → q < 2 ^ 53 → i ≤ 1 → e ≤ 1074 → HasValue (round binary64 false m (2 ^ e)) false m (2 ^ e)
exact_at m q i e h s u l =
    let k = 1074 - e in
    round_exact binary64 false m (2 ^ e) q (i + k) (pow_pos e) s
    (lt_of_lt_of_le (shl_lt 53 (i + k) s) (pow_mono {i = 53 + (i + k)} {j = 2098} (omega arith)))
    (shifted k 1074 (omega arith))
  where
    shifted : (k l : ℕ) → k + e ≡ l → m * 2 ^ l ≡ q * 2 ^ (i + k) * 2 ^ e
    shifted k l g = rw (h, ← g, pow-add 2 i k, pow-add 2 k e) (omega arith)

exact_part : (m e : ℕ) → m ≤ 2 ^ 53 → e ≤ 1074 → HasValue (round binary64 false m (2 ^ e)) false m (2 ^ e)
exact_part m e h l = go (eq-or-lt_of_le h)
  where
    go : (m ≡ 2 ^ 53) ⊎ (m < 2 ^ 53) → HasValue (round binary64 false m (2 ^ e)) false m (2 ^ e)
    go (inl g) = exact_at m (2 ^ 52) 1 e g (lit< tt) (lit≤ tt) l
    go (inr g) = exact_at m m 0 e (sym (mul-one m)) g (lit≤ tt) l

-- m over 2 ^ e, as the code divides
abbrev pub over : ℕ → ℕ → Float
over m p = div binary64 (of_int binary64 (pos m)) (of_int binary64 (pos p))

pub over_value : (m e : ℕ) → 0 < m → m ≤ 2 ^ 53 → e ≤ 53 → HasValue (over m (2 ^ e)) false m (2 ^ e)
unfolding of_int
over_value m e M h l =
    subst (λ (x : Float). HasValue x false m (2 ^ e))
    (sym (div_whole (round binary64 false m 1) (round binary64 false (2 ^ e) 1) m (2 ^ e) M (pow_pos e) (exact m h) (exact (2 ^ e) (pow_mono l))))
    (exact_part m e h (omega arith))
