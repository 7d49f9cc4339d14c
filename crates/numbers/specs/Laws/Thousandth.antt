-- One thousandth as an f64 lies a little above 1 / 1000, and no other f64 lies between: an f64 is at least it exactly when its value is at least 1 / 1000.
-- So a quotient by such a number is at most a thousand times what is divided. Assumes nothing.
use Rattle.std.specs.Prelude.{◌≡◌, refl, ◌↔◌, ℕ, zero, suc, ◌+◌, ◌-◌, ◌*◌, ◌%◌, ◌^◌, ◌≤◌, ◌<◌, Bool, true, false, ◌&&◌, ℤ, pos, negsuc, T, leb, ltb, eqb, Float}
use Rattle.std.proofs.Common.{sym, ap, ◌∙◌, subst, le_trans, le_of_eq, lt_of_lt_of_le, mul-one, zero-mul, mul_comm, mul_assoc, mul-pos, mul-le-mul, mul-lt-mul_of_pos_right, zero-lt-suc, not-le_of_lt, arith, leb-true, leb-false, leb→le, ltb→lt, pow-add, pow_pos, pow_mono, shl_lt}
use Rattle.std.proofs.Math.Nat.{mul-mul-mul_comm}
use Rattle.std.proofs.Math.Dec.{eqb-suc-zero}
use Rattle.std.proofs.Math.Pow.{pow-lt}
use Rattle.std.specs.Float.{nan, inf, fin, binary64}
use Rattle.std.specs.Float.Ieee.{up, down, round, div, le, fits}
use Rattle.std.specs.Float.Ieee.Fits.{up_pos, down_pos, and_l, and_r}
use Rattle.std.specs.Float.Ieee.Exact.{HasValue, round_exact}
use Rattle.std.specs.Float.Ieee.Order.{le_of_values, round_mono}
use Rattle.std.specs.Float.Ieee.Positive.{positive, positive_of_value, values_of_le}
use Rattle.numbers.specs.Laws.Upto.{Upto, exact, or_le, round_upto}
use Rattle.numbers.specs.Range.{fraction}

-- ---- an f64's own value is rounded to itself
own_whole : (m k : ℕ) → m < 2 ^ 53 → m * 2 ^ k < 2 ^ 1024 → HasValue (round binary64 false (m * 2 ^ k) 1) false (m * 2 ^ k) 1
own_whole m k s h =
    let e : m * 2 ^ k * 2 ^ 1074 ≡ m * 2 ^ (k + 1074) = mul_assoc m (2 ^ k) (2 ^ 1074) ∙ ap (λ (n : ℕ). m * n) (sym (pow-add 2 k 1074)) in
    round_exact binary64 false (m * 2 ^ k) 1 m (k + 1074) (pow_pos 0) s
    (subst (λ (n : ℕ). n < 2 ^ 2098) e (mul-lt-mul_of_pos_right h (pow_pos 1074)))
    (e ∙ sym (mul-one (m * 2 ^ (k + 1074))))

own_part : (m k : ℕ) → m < 2 ^ 53 → k ≤ 1074 → HasValue (round binary64 false (m * 1) (2 ^ k)) false (m * 1) (2 ^ k)
own_part m k s h =
    let j = 1074 - k in
    let e : j + k ≡ 1074 = omega arith in
    round_exact binary64 false (m * 1) (2 ^ k) m j (pow_pos k) s
    (lt_of_lt_of_le (shl_lt 53 j s) (pow_mono {j = 2098} (omega arith)))
    (ap (λ (n : ℕ). n * 2 ^ 1074) (mul-one m) ∙ ap (λ (n : ℕ). m * 2 ^ n) (sym e) ∙ ap (λ (n : ℕ). m * n) (pow-add 2 j k) ∙ sym (mul_assoc m (2 ^ j) (2 ^ k)))

pub pow_le : (i j : ℕ) → 2 ^ i ≤ 2 ^ j → i ≤ j
pow_le i j h = go (leb i j) refl
  where
    go : (b : Bool) → leb i j ≡ b → i ≤ j
    go true e = leb-true i j e
    go false e = absurd (not-le_of_lt (pow-lt (leb-false i j e)) h)

-- what a value that fits satisfies
pub record Held (m : ℕ) (e : ℤ) : Type 0 where
  pub few : m < 2 ^ 53
  pub fine : down e ≤ 2 ^ 1074
  pub small : m * up e < 2 ^ 1024 * down e

pub held : (m : ℕ) (e : ℤ) → T (fits binary64 (fin false (suc m) e)) → Held (suc m) e
unfolding fits
held m e t =
    let a : Bool = eqb (suc m % 2) 1 in
    let b : Bool = ltb (suc m) (2 ^ 53) in
    let c : Bool = leb (down e) (2 ^ 1074) in
    let d : Bool = ltb (suc m * up e) (2 ^ 1024 * down e) in
    let abc : T (a && b && c) = and_l (a && b && c) d t in
    record {
      few = ltb→lt (suc m) (2 ^ 53) (and_r a b (and_l (a && b) c abc));
      fine = leb→le (down e) (2 ^ 1074) (and_r (a && b) c abc);
      small = ltb→lt (suc m * up e) (2 ^ 1024 * down e) (and_r (a && b && c) d t);
    }

pub own_value : (m : ℕ) (e : ℤ) → Held m e → HasValue (round binary64 false (m * up e) (down e)) false (m * up e) (down e)
own_value m (pos k) h = own_whole m k h.few (subst (λ (n : ℕ). m * 2 ^ k < n) (mul-one (2 ^ 1024)) h.small)
own_value m (negsuc k) h = own_part m (suc k) h.few (pow_le (suc k) 1074 h.fine)

-- ---- 1 / 1000, as an f64 1152921504606847 / 2 ^ 60
rounded : fraction 1 1000 ≡ fin false 1152921504606847 (negsuc 59)
unfolding round
rounded = refl

at_least_exact : (m : ℕ) (e : ℤ) → T (le (fraction 1 1000) (fin false m e)) → down e ≤ 1000 * (m * up e)
unfolding le
at_least_exact m e t =
    let l = or_le (1152921504606847 * 1 * down e) (m * up e * 2 ^ 60) (subst (λ (x : Float). T (le x (fin false m e))) rounded t) in
    omega arith

exact_at_least : (m : ℕ) (e : ℤ) → T (fits binary64 (fin false m e)) → down e ≤ 1000 * (m * up e) → T (le (fraction 1 1000) (fin false m e))
exact_at_least zero e t h = absurd (not-le_of_lt (down_pos e) (rw (zero-mul (up e)) at h))
exact_at_least (suc m) e t h =
    let n = suc m * up e in
    let v = own_value (suc m) e (held m e t) in
    let z : Float = fin false 1152921504606847 (negsuc 59) in
    let l : T (le z (round binary64 false n (down e))) = subst (λ (x : Float). T (le x (round binary64 false n (down e)))) rounded
    (round_mono binary64 1 1000 n (down e) (zero-lt-suc 999) (down_pos e) (omega arith)) in
    let p : T (positive (round binary64 false n (down e))) = positive_of_value (round binary64 false n (down e)) n (down e) v (mul-pos (zero-lt-suc m) (up_pos e)) in
    subst (λ (x : Float). T (le x (fin false (suc m) e))) (sym rounded)
    (le_of_values z (fin false (suc m) e) (1152921504606847 * 1) (2 ^ 60) n (down e) (pow_pos 60) (down_pos e) (refl, refl) (refl, refl)
    (values_of_le z (round binary64 false n (down e)) (1152921504606847 * 1) (2 ^ 60) n (down e) tt p (refl, refl) v l))

pub thousandth_exact : (m : ℕ) (e : ℤ) → T (fits binary64 (fin false m e)) → T (le (fraction 1 1000) (fin false m e)) ↔ (down e ≤ 1000 * (m * up e))
thousandth_exact m e t = (at_least_exact m e, exact_at_least m e t)

-- ---- a quotient
pub div_upto : (a b : ℕ) (x y : Float) → a * 1000 ≤ 2 ^ 53 → Upto a x → Upto b y → T (le (fraction 1 1000) y) → Upto (a * 1000) (div binary64 x y)
unfolding div
div_upto a b nan y h u v l = absurd u
div_upto a b (inf s) y h u v l = absurd u
div_upto a b (fin true m e) y h u v l = absurd u
div_upto a b (fin false m e) nan h u v l = absurd v
div_upto a b (fin false m e) (inf t) h u v l = absurd v
div_upto a b (fin false m e) (fin true n d) h u v l = absurd v
div_upto a b (fin false m e) (fin false zero d) h u v l = absurd (not-le_of_lt (down_pos d) (rw (zero-mul (up d)) at (at_least_exact zero d l)))
div_upto a b (fin false m e) (fin false (suc n) d) h u v l =
    let k = at_least_exact (suc n) d l in
    rw (eqb-suc-zero n)
    (round_upto (m * up e * down d) (suc n * up d * down e) (a * 1000) (mul-pos (mul-pos (zero-lt-suc n) (up_pos d)) (down_pos e))
    (le_trans (mul-le-mul u k) (le_of_eq (turned (down e) (suc n * up d))))
    (exact (a * 1000) h))
  where
    turned : (p q : ℕ) → a * p * (1000 * q) ≡ a * 1000 * (q * p)
    turned p q = mul-mul-mul_comm a p 1000 q ∙ ap (λ (i : ℕ). a * 1000 * i) (mul_comm p q)
