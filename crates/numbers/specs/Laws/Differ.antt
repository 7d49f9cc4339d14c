-- Of two f64s that are not negative, the larger less the smaller is above 0: the exact difference is a whole number of the least positive f64, so it does not round to 0.
-- Assumes nothing.
use Rattle.std.specs.Prelude.{◌≡◌, refl, ℕ, zero, suc, ◌+◌, ◌-◌, ◌*◌, ◌^◌, ◌≤◌, ◌<◌, true, false, ℤ, pos, negsuc, T, Float}
use Rattle.std.proofs.Common.{sym, ap, ◌∙◌, subst, zero-le, le_trans, le_of_eq, le_of_lt, zero-mul, one-mul, mul-one, suc-mul, mul_comm, mul_assoc, mul_left_comm, mul-le-mul_right, mul-lt-mul_of_pos_right, lt_of_mul-lt-mul_right, mul-pos, arith, ltb→lt, lt→ltb, eqb→eq, le-ltb, pow-add, pow_pos}
use Rattle.std.proofs.Math.Nat.{mul-sub}
use Rattle.std.proofs.Math.Pow.{pow-lt}
use Rattle.std.specs.Float.{nan, inf, fin, binary64}
use Rattle.std.specs.Float.Ieee.{up, down, round, neg, sum, add, sub, lt, fits, of_bits, of_fields, odd}
use Rattle.std.specs.Float.Ieee.Fits.{up_pos, down_pos}
use Rattle.std.specs.Float.Ieee.Exact.{HasValue, round_exact}
use Rattle.std.specs.Float.Ieee.Order.{round_mono}
use Rattle.std.specs.Float.Ieee.Positive.{above, positive_of_value, above_of_le}
use Rattle.numbers.specs.Laws.Upto.{Upto}
use Rattle.numbers.specs.Laws.Thousandth.{held, pow_le}

-- ---- whole numbers of the least positive f64, 1 / 2 ^ 1074
abbrev places : ℤ → ℕ
places (pos k) = 0
places (negsuc k) = suc k

fine : (m : ℕ) (e : ℤ) → T (fits binary64 (fin false m e)) → places e ≤ 1074
unfolding fits
fine m (pos k) t = omega arith
fine zero (negsuc k) t = pow_le (suc k) 1074 (le_trans (le_of_eq (sym (one-mul (2 ^ suc k)) ∙ eqb→eq (1 * 2 ^ suc k) 1 t)) (pow_pos 1074))
fine (suc m) (negsuc k) t = pow_le (suc k) 1074 (held m (negsuc k) t).fine

-- how many of them 2 ^ e has, for a denominator
abbrev share : ℤ → ℕ
share e = 2 ^ (1074 - places e)

shares : (e : ℤ) → places e ≤ 1074 → 2 ^ 1074 ≡ share e * down e
shares (pos k) h = sym (mul-one (2 ^ 1074))
shares (negsuc k) h = ap (λ (n : ℕ). 2 ^ n) (let e : 1074 ≡ 1074 - suc k + suc k = omega arith in e) ∙ pow-add 2 (1074 - suc k) (suc k)

-- a / p - b / q is at least 1 / l where p and q divide l
apart : (a b p q u w l : ℕ) → 0 < l → l ≡ u * p → l ≡ w * q → b * p < a * q → p * q ≤ (a * q - b * p) * l
apart a b p q u w l L up wq h =
    let x : a * q * l ≡ a * u * (p * q) = ap (λ (n : ℕ). a * q * n) up ∙ (simp (mul_assoc, mul_comm, mul_left_comm)) in
    let y : b * p * l ≡ b * w * (p * q) = ap (λ (n : ℕ). b * p * n) wq ∙ (simp (mul_assoc, mul_comm, mul_left_comm)) in
    let k : b * w * (p * q) < a * u * (p * q) = subst (λ (n : ℕ). n < a * u * (p * q)) y (subst (λ (n : ℕ). b * p * l < n) x (mul-lt-mul_of_pos_right h L)) in
    let o : suc (b * w) * (p * q) ≤ a * u * (p * q) = mul-le-mul_right (p * q) (lt_of_mul-lt-mul_right (p * q) k) in
    let d : (a * q - b * p) * l ≡ a * q * l - b * p * l = mul_comm (a * q - b * p) l ∙ mul-sub l (a * q) (b * p) ∙ ap (λ (n : ℕ). n - l * (b * p)) (mul_comm l (a * q)) ∙ ap (λ (n : ℕ). a * q * l - n) (mul_comm l (b * p)) in
    subst (λ (n : ℕ). p * q ≤ n) (sym (d ∙ ap (λ (n : ℕ). n - b * p * l) x ∙ ap (λ (n : ℕ). a * u * (p * q) - n) y))
    (go (a * u * (p * q)) (b * w * (p * q)) (p * q) (le_trans (le_of_eq (sym (suc-mul (b * w) (p * q)))) o))
  where
    go : (x y z : ℕ) → y + z ≤ x → z ≤ x - y
    go x y z l = omega arith

-- ---- a fraction that is not below 1 / 2 ^ 1074 does not round to 0
least : HasValue (round binary64 false 1 (2 ^ 1074)) false 1 (2 ^ 1074)
least = round_exact binary64 false 1 (2 ^ 1074) 1 0 (pow_pos 1074) (omega arith) (pow-lt {i = 0} {j = 2098} (omega arith)) refl

round_above : (a c : ℕ) → 0 < c → c ≤ a * 2 ^ 1074 → T (above (round binary64 false a c))
round_above a c C h =
    above_of_le (round binary64 false 1 (2 ^ 1074)) (round binary64 false a c) (positive_of_value (round binary64 false 1 (2 ^ 1074)) 1 (2 ^ 1074) least (pow_pos 0))
    (round_mono binary64 1 (2 ^ 1074) a c (pow_pos 1074) C (le_trans (le_of_eq (one-mul c)) h))

-- above 0 as the machine compares
above_zero : (x : Float) → T (above x) → T (lt (of_bits binary64 0) x)
unfolding lt of_bits of_fields odd
above_zero nan t = t
above_zero (inf true) t = t
above_zero (inf false) t = tt
above_zero (fin true n d) t = absurd t
above_zero (fin false n d) t = lt→ltb (0 * 1 * down d) (n * up d * 1) (subst (λ (k : ℕ). k < n * up d * 1) (sym (zero-mul (down d))) (mul-pos (mul-pos (ltb→lt 0 n t) (up_pos d)) (pow_pos 0)))

-- and then it is not below 0
pub not_below : (x : Float) → T (lt (of_bits binary64 0) x) → lt x (of_bits binary64 0) ≡ false
unfolding lt of_bits of_fields odd
not_below nan t = refl
not_below (inf true) t = absurd t
not_below (inf false) t = refl
not_below (fin true n d) t = absurd t
not_below (fin false n d) t = le-ltb (n * up d * 1) (0 * 1 * down d) (le_trans (le_of_eq (zero-mul (down d))) zero-le)

-- ---- the difference
pub sub_positive : (a b : ℕ) (x y : Float) → T (fits binary64 x) → T (fits binary64 y) → Upto a x → Upto b y → T (lt y x) → T (lt (of_bits binary64 0) (sub binary64 x y))
unfolding sub add neg sum lt
sub_positive a b nan y f g u v l = absurd u
sub_positive a b (inf s) y f g u v l = absurd u
sub_positive a b (fin true m e) y f g u v l = absurd u
sub_positive a b (fin false m e) nan f g u v l = absurd v
sub_positive a b (fin false m e) (inf t) f g u v l = absurd v
sub_positive a b (fin false m e) (fin true n d) f g u v l = absurd v
sub_positive a b (fin false m e) (fin false n d) f g u v l =
    let h : n * up d * down e < m * up e * down d = ltb→lt (n * up d * down e) (m * up e * down d) l in
    above_zero _ (rw (le-ltb (m * up e * down d) (n * up d * down e) (le_of_lt h))
    (round_above (m * up e * down d - n * up d * down e) (down e * down d) (mul-pos (down_pos e) (down_pos d))
    (apart (m * up e) (n * up d) (down e) (down d) (share e) (share d) (2 ^ 1074) (pow_pos 1074) (shares e (fine m e f)) (shares d (fine n d g)) h)))
