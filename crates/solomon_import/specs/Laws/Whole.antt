-- Whole numbers and roots as the f64 of a field: their patterns are in range as the numbers are. Assumes nothing.
use Rattle.std.specs.Prelude.{◌≡◌, refl, ℕ, zero, suc, ◌+◌, ◌*◌, ◌/◌, ◌%◌, ◌^◌, ◌≤◌, ◌<◌, Bool, true, false, cond, T, leb, eqb, Float}
use Rattle.std.proofs.Common.{sym, ◌∙◌, subst, le_trans, le_of_eq, mul-one, mul-le-mul_right, le_of_mul-le-mul_right, lt_of_not-le, not-le_of_lt, true≢false, le-leb, lt-ltb, pow_pos}
use Rattle.std.proofs.Math.Decide.{dec_le}
use Rattle.std.proofs.lemmas.Bool.{lt-leb}
use Rattle.std.specs.Float.{nan, inf, fin, binary64}
use Rattle.std.specs.Float.Ieee.{hid, top, ones, up, down, odd, round, fits, le, of_fields, of_bits, to_bits}
use Rattle.std.specs.Float.Ieee.Bits.{of_bits-to_bits, is_true}
use Rattle.std.specs.Float.Ieee.Exact.{HasValue, odd_sign}
use Rattle.std.specs.Float.Ieee.Fits.{round-fits, down_pos}
use Rattle.std.specs.Float.Ieee.Order.{round_mono}
use Rattle.numbers.specs.Range.{whole, in_range}
use Rattle.numbers.specs.Laws.Upto.{Upto, exact, clear_value, below_value}
use Rattle.square_root.specs.ClosestRoot.{unsigned_finite}
use Rattle.square_root.specs.Laws.Closest.{value_plain}

-- ---- a clear sign is a pattern in the lower half
value_signed : (x : Float) (a c : ℕ) → HasValue x true a c → T (unsigned_finite x) → ⊥
value_signed (fin false m e) a c h p = true≢false (sym h.0)
value_signed nan a c h p = elim h [ ]
value_signed (inf _) a c h p = elim h [ ]
value_signed (fin true m e) a c h p = elim p [ ]

fields_signed : (x t : ℕ) → T (unsigned_finite (of_fields binary64 true x t)) → ⊥
unfolding of_fields
fields_signed zero t p = value_signed (odd 53 true t 0 1074) (t * 2 ^ 0) (2 ^ 1074) (odd_sign 53 true t 0 1074) p
fields_signed (suc x) t p = go (eqb (suc x) (ones binary64)) (eqb t 0) p
  where
    go : (a b : Bool) → T (unsigned_finite (cond a (cond b (inf true) nan) (odd 53 true (hid binary64 + t) x 1074))) → ⊥
    go true true q = q
    go true false q = q
    go false b q = value_signed (odd 53 true (hid binary64 + t) x 1074) ((hid binary64 + t) * 2 ^ x) (2 ^ 1074) (odd_sign 53 true (hid binary64 + t) x 1074) q

pattern_signed : (n : ℕ) → 0x8000_0000_0000_0000 ≤ n → T (unsigned_finite (of_bits binary64 n)) → ⊥
unfolding of_bits
pattern_signed n h p =
    fields_signed (n % top binary64 / hid binary64) (n % hid binary64)
    (subst (λ (s : Bool). T (unsigned_finite (of_fields binary64 s (n % top binary64 / hid binary64) (n % hid binary64)))) (le-leb (top binary64) n h) p)

plain_pattern : (x : Float) → T (fits binary64 x) → T (unsigned_finite x) → to_bits binary64 x < 0x8000_0000_0000_0000
plain_pattern x f p = lt_of_not-le (λ l. pattern_signed (to_bits binary64 x) l (subst (λ (y : Float). T (unsigned_finite y)) (sym (of_bits-to_bits binary64 x f)) p))

-- such a pattern is in range by its value alone
pub in_range_plain : (x max : Float) → T (fits binary64 x) → T (unsigned_finite x) → in_range (to_bits binary64 x) max ≡ le x max
unfolding in_range
in_range_plain x max f p = rw (lt-ltb (to_bits binary64 x) 0x8000_0000_0000_0000 (plain_pattern x f p), of_bits-to_bits binary64 x f)

-- ---- whole numbers
upto_size : (x : Float) (a n : ℕ) → HasValue x false a 1 → Upto n x → a ≤ n
upto_size (fin false m e) a n h u = le_of_mul-le-mul_right {k = down e} (le_trans (le_of_eq (sym h.1 ∙ mul-one (m * up e))) u) (down_pos e)
upto_size (fin true m e) a n h u = absurd u
upto_size nan a n h u = elim h [ ]
upto_size (inf _) a n h u = elim h [ ]

module _ (n k : ℕ) (N : n ≤ 2 ^ 53) (K : k ≤ 2 ^ 53) where
  whole_size : T (le (whole n) (whole k)) → n ≤ k
  whole_size t = upto_size (whole n) n k (exact n N) (below_value (whole n) (whole k) k (clear_value (whole n) n 1 (exact n N)) (exact k K) t)

  pub le_whole : le (whole n) (whole k) ≡ leb n k
  le_whole = go (dec_le n k)
    where
      not_le : (b : Bool) → (T b → n ≤ k) → k < n → b ≡ false
      not_le true f l = absurd (not-le_of_lt l (f tt))
      not_le false f l = refl

      go : Dec (n ≤ k) → le (whole n) (whole k) ≡ leb n k
      go (yes l) = is_true (le (whole n) (whole k)) (round_mono binary64 n 1 k 1 (pow_pos 0) (pow_pos 0) (mul-le-mul_right 1 l)) ∙ sym (le-leb n k l)
      go (no f) = not_le (le (whole n) (whole k)) whole_size (lt_of_not-le f) ∙ sym (lt-leb n k (lt_of_not-le f))

  pub in_range_whole : in_range (to_bits binary64 (whole n)) (whole k) ≡ leb n k
  in_range_whole = in_range_plain (whole n) (whole k) (round-fits binary64 false n 1) (value_plain (whole n) n 1 (exact n N)) ∙ le_whole

pub zero_pattern : to_bits binary64 (whole 0) ≡ 0
unfolding to_bits round
zero_pattern = refl
