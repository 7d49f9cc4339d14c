-- What makes no sum less: a NaN, or what is not below 0. What is not above an f64 is not above a sum of it and such a one, or the sum is a NaN.
-- Assumes nothing.
use Rattle.std.specs.Prelude.{◌≡◌, refl, ℕ, zero, suc, ◌+◌, ◌*◌, ◌≤◌, ◌<◌, Bool, true, false, cond, ℤ, T, eqb, Float}
use Rattle.std.proofs.Common.{sym, ap, ◌∙◌, zero-le, le_trans, le_of_eq, le-add_right, zero-lt-suc, zero-mul, mul-zero, mul_assoc, mul_right_comm, mul-le-mul_right, mul-pos, arith, true≢false, ltb-false, le-ltb, pow_pos}
use Rattle.std.proofs.Math.Nat.{sub-zero}
use Rattle.std.specs.Float.{nan, inf, fin, binary64}
use Rattle.std.specs.Float.Ieee.{up, down, round, sum, add, mul, lt, le, fits, of_bits, of_fields, odd}
use Rattle.std.specs.Float.Ieee.Fits.{up_pos, down_pos}
use Rattle.std.specs.Float.Ieee.Exact.{HasValue, round_exact}
use Rattle.std.specs.Float.Ieee.Order.{transfer, round_mono}
use Rattle.std.specs.Float.Ieee.Positive.{through}
use Rattle.numbers.specs.Laws.Upto.{Upto, Clear, round_clear, or_le}
use Rattle.numbers.specs.Laws.Thousandth.{held, own_value}

-- ---- adding it makes no sum less: a NaN, or what is not below 0
abbrev pub Adds : Float → Type 0
Adds nan = Unit
Adds (inf s) = s ≡ false
Adds (fin false m e) = Unit
Adds (fin true zero e) = Unit
Adds (fin true (suc m) e) = ⊥

pub not_below_zero : (x : Float) → lt x (of_bits binary64 0) ≡ false → Adds x
unfolding lt of_bits of_fields odd
not_below_zero nan h = tt
not_below_zero (inf s) h = h
not_below_zero (fin false m e) h = tt
not_below_zero (fin true zero e) h = tt
not_below_zero (fin true (suc m) e) h =
    let p : 0 < suc m * up e * 1 = mul-pos (mul-pos (zero-lt-suc m) (up_pos e)) (pow_pos 0) in
    let q = ltb-false 0 (suc m * up e * 1 + 0 * 1 * down e) h in
    absurd (omega arith)

clear_adds : (x : Float) → Clear x → Adds x
clear_adds nan c = tt
clear_adds (inf s) c = c
clear_adds (fin false m e) c = tt
clear_adds (fin true m e) c = absurd (true≢false c)

zero_adds : (x : Float) (a c : ℕ) → HasValue x true a c → 0 < c → a ≡ 0 → Adds x
zero_adds nan a c h p e = tt
zero_adds (inf s) a c h p e = absurd h
zero_adds (fin false m i) a c h p e = tt
zero_adds (fin true zero i) a c h p e = tt
zero_adds (fin true (suc m) i) a c h p e =
    let q : 0 < suc m * up i * c = mul-pos (mul-pos (zero-lt-suc m) (up_pos i)) p in
    let z : suc m * up i * c ≡ 0 = h.1 ∙ ap (λ (n : ℕ). n * down i) e ∙ zero-mul (down i) in
    absurd (omega arith)

own_zero : (s : Bool) (a c : ℕ) → a ≡ 0 → 0 < c → HasValue (round binary64 s a c) s a c
own_zero s a c e p = round_exact binary64 s a c 0 0 p (pow_pos 53) (pow_pos 2098) (rw (e, zero-mul) (sym (zero-mul c)))

pub product_adds : (n : ℕ) (x z : Float) → Upto n x → Adds z → Adds (mul binary64 x z)
unfolding mul
product_adds n nan z u a = absurd u
product_adds n (inf s) z u a = absurd u
product_adds n (fin true m e) z u a = absurd u
product_adds n (fin false m e) nan u a = tt
product_adds n (fin false m e) (inf true) u a = absurd (true≢false a)
product_adds n (fin false m e) (inf false) u a = go (eqb m 0)
  where
    go : (b : Bool) → Adds (cond b nan (inf false))
    go true = tt
    go false = refl
product_adds n (fin false m e) (fin false k d) u a = clear_adds _ (round_clear binary64 (m * up e * (k * up d)) (down e * down d))
product_adds n (fin false m e) (fin true zero d) u a =
    let z : m * up e * (zero * up d) ≡ 0 = ap (λ (i : ℕ). m * up e * i) (zero-mul (up d)) ∙ mul-zero (m * up e) in
    let p = mul-pos (down_pos e) (down_pos d) in
    zero_adds _ (m * up e * (zero * up d)) (down e * down d) (own_zero true (m * up e * (zero * up d)) (down e * down d) z p) p z
product_adds n (fin false m e) (fin true (suc k) d) u a = absurd a

-- ---- what is not above a value is not above what that value, or more, is rounded to
inf_not_below : (x : Float) → lt (inf false) x ≡ false
unfolding lt
inf_not_below nan = refl
inf_not_below (inf s) = refl
inf_not_below (fin s m e) = refl

grown : (m : ℕ) (e : ℤ) (r w x : Float) → HasValue r false (m * up e) (down e) → Clear w → T (le r w) → lt (fin false m e) x ≡ false → lt w x ≡ false
unfolding lt le
grown m e r nan x v c l h = absurd c
grown m e r (inf true) x v c l h = absurd (true≢false c)
grown m e r (inf false) x v c l h = inf_not_below x
grown m e r (fin true q j) x v c l h = absurd (true≢false c)
grown m e r (fin false q j) nan v c l h = refl
grown m e r (fin false q j) (inf true) v c l h = refl
grown m e r (fin false q j) (inf false) v c l h = absurd (true≢false h)
grown m e r (fin false q j) (fin true k i) v c l h = refl
grown m e nan (fin false q j) (fin false k i) v c l h = absurd v
grown m e (inf s) (fin false q j) (fin false k i) v c l h = absurd v
grown m e (fin true p d) (fin false q j) (fin false k i) v c l h = absurd (true≢false v.0)
grown m e (fin false p d) (fin false q j) (fin false k i) v c l h =
    let more : m * up e * down j ≤ q * up j * down e =
    transfer (m * up e) (q * up j) (down e) (down j) (p * up d) (q * up j) (down d) (down j) (down_pos d) (down_pos j) (sym v.1) refl (or_le (p * up d * down j) (q * up j * down d) l) in
    le-ltb (q * up j * down i) (k * up i * down j)
    (through (k * up i) (m * up e) (q * up j) (down i) (down e) (down j) (down_pos e) (ltb-false (m * up e * down i) (k * up i * down e) h) more)

own : (m : ℕ) (e : ℤ) → T (fits binary64 (fin false m e)) → HasValue (round binary64 false (m * up e) (down e)) false (m * up e) (down e)
own zero e f = own_zero false (zero * up e) (down e) (zero-mul (up e)) (down_pos e)
own (suc m) e f = own_value (suc m) e (held m e f)

rounded : (m : ℕ) (e : ℤ) (a c : ℕ) (x : Float) → T (fits binary64 (fin false m e)) → 0 < c → m * up e * c ≤ a * down e → lt (fin false m e) x ≡ false → lt (round binary64 false a c) x ≡ false
rounded m e a c x f p l h =
    grown m e (round binary64 false (m * up e) (down e)) (round binary64 false a c) x (own m e f) (round_clear binary64 a c) (round_mono binary64 (m * up e) (down e) a c (down_pos e) p l) h

pub sum_not_below : (n : ℕ) (d z x : Float) → T (fits binary64 d) → Upto n d → Adds z → lt d x ≡ false → lt (add binary64 d z) x ≡ false
unfolding add sum
sum_not_below n nan z x f u a h = absurd u
sum_not_below n (inf s) z x f u a h = absurd u
sum_not_below n (fin true m e) z x f u a h = absurd u
sum_not_below n (fin false m e) nan x f u a h = unfold lt in refl
sum_not_below n (fin false m e) (inf true) x f u a h = absurd (true≢false a)
sum_not_below n (fin false m e) (inf false) x f u a h = inf_not_below x
sum_not_below n (fin false m e) (fin false k i) x f u a h =
    rounded m e (m * up e * down i + k * up i * down e) (down e * down i) x f (mul-pos (down_pos e) (down_pos i))
    (le_trans (le_of_eq (sym (mul_assoc (m * up e) (down e) (down i)) ∙ mul_right_comm (m * up e) (down e) (down i)))
    (mul-le-mul_right (down e) (le-add_right (m * up e * down i) (k * up i * down e)))) h
sum_not_below n (fin false m e) (fin true zero i) x f u a h =
    let z : zero * up i * down e ≡ 0 = ap (λ (n : ℕ). n * down e) (zero-mul (up i)) ∙ zero-mul (down e) in
    rw (z, le-ltb (m * up e * down i) 0 zero-le, sub-zero)
    (rounded m e (m * up e * down i) (down e * down i) x f (mul-pos (down_pos e) (down_pos i))
    (le_of_eq (sym (mul_assoc (m * up e) (down e) (down i)) ∙ mul_right_comm (m * up e) (down e) (down i))) h)
sum_not_below n (fin false m e) (fin true (suc k) i) x f u a h = absurd a
