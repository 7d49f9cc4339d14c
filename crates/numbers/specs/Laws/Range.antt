-- The test of a pattern's range, and what it says. Assumes nothing.
use Rattle.std.specs.Prelude.{◌≡◌, refl, ℕ, zero, suc, ◌+◌, ◌*◌, ◌/◌, ◌%◌, ◌^◌, ◌≤◌, ◌<◌, Bool, true, false, not, ◌&&◌, cond, T, leb, ltb, eqb, Float}
use Rattle.std.proofs.Common.{sym, ap, ◌∙◌, subst, zero-le, le_trans, mod-eq_of_lt, arith, lt-ltb, le-ltb, ltb-true, true≢false, ltb→lt}
use Rattle.std.proofs.Math.Nat.{mod-le}
use Rattle.std.proofs.lemmas.Bool.{lt-leb}
use Rattle.std.specs.Float.{nan, inf, fin, binary64}
use Rattle.std.specs.Float.Ieee.{hid, top, ones, odd, round, of_fields, of_bits, nan_bits, le, is_nan}
use Rattle.std.specs.Float.Ieee.Fits.{and_l, and_r}
use Rattle.std.specs.Float.Ieee.Exact.{odd_sign}
use Rattle.std.specs.Float.Ieee.Bits.{nan_bits_is, nan_bits_above}
use Rattle.numbers.specs.Laws.Upto.{Upto, Clear, exact, clear_value, below_value}
use Rattle.numbers.specs.Range.{whole, fraction, in_range}

fields_clear : (x t : ℕ) (y : Float) → T (le (of_fields binary64 false x t) y) → Clear (of_fields binary64 false x t)
unfolding of_fields le
fields_clear zero t y h = clear_value (odd 53 false t 0 1074) (t * 2 ^ 0) (2 ^ 1074) (odd_sign 53 false t 0 1074)
fields_clear (suc x) t y h = go (eqb (suc x) (ones binary64)) (eqb t 0) h
  where
    go : (a b : Bool) → T (le (cond a (cond b (inf false) nan) (odd 53 false (hid binary64 + t) x 1074)) y) → Clear (cond a (cond b (inf false) nan) (odd 53 false (hid binary64 + t) x 1074))
    go true true k = refl
    go true false k = absurd k
    go false b k = clear_value (odd 53 false (hid binary64 + t) x 1074) ((hid binary64 + t) * 2 ^ x) (2 ^ 1074) (odd_sign 53 false (hid binary64 + t) x 1074)

-- the pattern of the infinity: among those with the sign clear, the ones above it are NaN's
abbrev pub infinity : ℕ
infinity = 0x7ff0_0000_0000_0000

no_sign : (n : ℕ) → n < 0x8000_0000_0000_0000 → leb (top binary64) n ≡ false
no_sign n h = lt-leb (top binary64) n h

positive_pattern : (n : ℕ) → n < 0x8000_0000_0000_0000 → of_bits binary64 n ≡ of_fields binary64 false (n % top binary64 / hid binary64) (n % hid binary64)
unfolding of_bits
positive_pattern n h = ap (λ (s : Bool). of_fields binary64 s (n % top binary64 / hid binary64) (n % hid binary64)) (no_sign n h)

pub number_up_to_infinity : (n : ℕ) → n ≤ infinity → T (not (nan_bits binary64 n))
number_up_to_infinity n h = rw (nan_bits_above binary64 n, le-ltb infinity (n % top binary64) (le_trans (mod-le n (top binary64)) h)) tt

nan_above_infinity : (n : ℕ) → infinity < n → n < 0x8000_0000_0000_0000 → is_nan (of_bits binary64 n) ≡ true
nan_above_infinity n h k = sym (nan_bits_is binary64 n) ∙ nan_bits_above binary64 n ∙ lt-ltb infinity (n % top binary64) (rw (mod-eq_of_lt k) h)

le_nan : (x y : Float) → is_nan x ≡ true → le x y ≡ false
unfolding le is_nan
le_nan nan y e = refl
le_nan (inf s) y e = absurd (true≢false (sym e))
le_nan (fin s m d) y e = absurd (true≢false (sym e))

-- above the infinity's pattern lie the NaNs' and every set sign's, -0's too: none of them is in range
pub in_range_above : (n : ℕ) (max : Float) → infinity < n → in_range n max ≡ false
unfolding in_range
in_range_above n max h = go (ltb n 0x8000_0000_0000_0000) refl
  where
    go : (b : Bool) → ltb n 0x8000_0000_0000_0000 ≡ b → (b && le (of_bits binary64 n) max) ≡ false
    go true e = le_nan (of_bits binary64 n) max (nan_above_infinity n h (ltb-true n 0x8000_0000_0000_0000 e))
    go false e = refl

pub in_range_below : (n : ℕ) (max : Float) → n ≤ infinity → in_range n max ≡ le (of_bits binary64 n) max
unfolding in_range
in_range_below n max h = rw (lt-ltb n 0x8000_0000_0000_0000 (omega arith))

pub in_range_le : (n : ℕ) (max : Float) → T (in_range n max) → T (le (of_bits binary64 n) max)
unfolding in_range
in_range_le n max t = and_r (ltb n 0x8000_0000_0000_0000) (le (of_bits binary64 n) max) t

pub in_range_positive : (n : ℕ) (max : Float) → T (in_range n max) → n < 0x8000_0000_0000_0000
unfolding in_range
in_range_positive n max t = ltb→lt n 0x8000_0000_0000_0000 (and_l (ltb n 0x8000_0000_0000_0000) (le (of_bits binary64 n) max) t)

pub in_range_number : (n : ℕ) (max : Float) → T (in_range n max) → T (not (nan_bits binary64 n))
unfolding le is_nan
in_range_number n max t = rw (nan_bits_is binary64 n) (go (of_bits binary64 n) (in_range_le n max t))
  where
    go : (x : Float) → T (le x max) → T (not (is_nan x))
    go nan l = l
    go (inf s) l = tt
    go (fin s m e) l = tt

pub in_range_upto : (n k : ℕ) → k ≤ 2 ^ 53 → T (in_range n (whole k)) → Upto k (of_bits binary64 n)
in_range_upto n k h t =
    let e = positive_pattern n (in_range_positive n (whole k) t) in
    let l = in_range_le n (whole k) t in
    let c = fields_clear (n % top binary64 / hid binary64) (n % hid binary64) (whole k) (subst (λ (z : Float). T (le z (whole k))) e l) in
    below_value (of_bits binary64 n) (whole k) k (subst Clear (sym e) c) (exact k h) l

-- ---- the pattern 0
pub zero_upto : (k : ℕ) → Upto k (of_bits binary64 0)
unfolding of_bits of_fields odd
zero_upto k = zero-le

pub zero_number : T (not (nan_bits binary64 0))
unfolding nan_bits
zero_number = tt

-- ---- the limits' patterns
pub million : of_bits binary64 0x412E_8480_0000_0000 ≡ whole 1000000
unfolding of_bits of_fields odd round
million = refl

pub billion : of_bits binary64 0x41CD_CD65_0000_0000 ≡ whole 1000000000
unfolding of_bits of_fields odd round
billion = refl

pub trillion : of_bits binary64 0x426D_1A94_A200_0000 ≡ whole 1000000000000
unfolding of_bits of_fields odd round
trillion = refl

pub thousandth : of_bits binary64 0x3F50_624D_D2F1_A9FC ≡ fraction 1 1000
unfolding of_bits of_fields odd round
thousandth = refl
