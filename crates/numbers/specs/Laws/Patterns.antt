-- The order of f64s by their patterns, for those that are no NaN's: that of the sign and of what is below it. So the order of patterns with the sign clear is that of
-- numbers, and one is that of a number from 0 to a finite maximum exactly where it is not above the maximum's: one comparison. Assumes nothing.
use Rattle.std.specs.Prelude.{◌≡◌, refl, ℕ, zero, suc, ◌+◌, ◌*◌, ◌/◌, ◌%◌, ◌^◌, ◌≤◌, ◌<◌, ◌⊎◌, Bool, true, false, not, ◌&&◌, T, leb, ltb, Float}
use Rattle.std.proofs.Common.{inl, inr, sym, ap, ◌∙◌, subst, le_of_lt, le-ltb, leb-true, leb-false, lt_of_lt_of_le, add-mul, zero-mul, nltb→le, mul_assoc, mul_comm, mul_right_comm, mul-le-mul, mul-lt-mul_of_pos_right, lt_of_mul-lt-mul_right, mul-pos, arith, ltb-true, lt-ltb, pow_pos, pow_mono}
use Rattle.std.proofs.Math.Nat.{eq-or-lt_of_le, pow-suc}
use Rattle.std.proofs.lemmas.Bool.{lt-leb, ltb_from_iff, ne_eqb, cases_order}
use Rattle.std.proofs.lemmas.Float.{T_from_true, T_from_false, le_of_not-lt, lt_of_le_of_lt, lt_irrefl}
use Rattle.std.proofs.lemmas.Bool.Decides.{nat_tests}
use Rattle.std.specs.Float.{nan, inf, fin, binary64, NotNan}
use Rattle.std.specs.Float.Ieee.{hid, top, up, down, of_fields, of_bits, nan_bits, below, lt, le}
use Rattle.std.specs.Float.Ieee.Fits.{down_pos}
use Rattle.std.specs.Float.Ieee.Exact.{HasValue, odd_sign}
use Rattle.std.specs.Float.Ieee.Bits.{is_true, nan_bits_is, nan_bits_above}
use Rattle.numbers.specs.Range.{in_range}
use Rattle.numbers.specs.Laws.Range.{infinity, number_up_to_infinity, in_range_above, in_range_below}

-- ---- the order of values by their sizes
-- a is the size in units of which c make 1; an infinity's is l, above each finite one
Sized : ℕ → ℕ → Float → Bool → ℕ → Type 0
Sized c l nan s a = ⊥
Sized c l (inf r) s a = (r ≡ s) × (a ≡ l)
Sized c l (fin r m e) s a = HasValue (fin r m e) s a c × (a < l)

scaled_lt : (c k x y a b : ℕ) → 0 < c → x * c ≡ a * k → y * c ≡ b * k → x < y → a < b
scaled_lt c k x y a b C p q h =
    let l : x * c < y * c = mul-lt-mul_of_pos_right h C in
    lt_of_mul-lt-mul_right k (rw (p, q) at l)

ltb_scaled : (c k x y a b : ℕ) → 0 < c → 0 < k → x * c ≡ a * k → y * c ≡ b * k → ltb x y ≡ ltb a b
ltb_scaled c k x y a b C K p q =
    ltb_from_iff (λ e. scaled_lt c k x y a b C p q (ltb-true x y e), λ h. lt-ltb x y (scaled_lt k c a b x y K (sym p) (sym q) h))

below_scaled : (s t : Bool) (c k x y a b : ℕ) → 0 < c → 0 < k → x * c ≡ a * k → y * c ≡ b * k → below s x t y ≡ below s a t b
below_scaled false false c k x y a b C K p q = ltb_scaled c k x y a b C K p q
below_scaled false true c k x y a b C K p q = refl
below_scaled true false c k x y a b C K p q =
    ltb_scaled c k 0 (x + y) 0 (a + b) C K (simp zero-mul) (rw (add-mul x y c, add-mul a b k, p, q))
below_scaled true true c k x y a b C K p q = ltb_scaled c k y x b a C K q p

-- the sizes of the two, in the common unit of their fractions
below_fin : (s t : Bool) (c a b m n i j d e : ℕ) → 0 < c → 0 < d → 0 < e → m * i * c ≡ a * d → n * j * c ≡ b * e → below s (m * i * e) t (n * j * d) ≡ below s a t b
below_fin s t c a b m n i j d e C D E p q =
    below_scaled s t c (d * e) (m * i * e) (n * j * d) a b C (mul-pos D E)
    (mul_right_comm (m * i) e c ∙ ap (λ (z : ℕ). z * e) p ∙ mul_assoc a d e)
    (mul_right_comm (n * j) d c ∙ ap (λ (z : ℕ). z * d) q ∙ mul_assoc b e d ∙ ap (λ (z : ℕ). b * z) (mul_comm e d))

below_infs : (s t : Bool) (l : ℕ) → 0 < l → (s && not t) ≡ below s l t l
below_infs false false l L = grind (arith, nat_tests)
below_infs false true l L = refl
below_infs true false l L = grind (arith, nat_tests)
below_infs true true l L = grind (arith, nat_tests)

below_inf_left : (s t : Bool) (l b : ℕ) → b < l → s ≡ below s l t b
below_inf_left false false l b h = grind (arith, nat_tests)
below_inf_left false true l b h = refl
below_inf_left true false l b h = grind (arith, nat_tests)
below_inf_left true true l b h = grind (arith, nat_tests)

below_inf_right : (s t : Bool) (a l : ℕ) → a < l → not t ≡ below s a t l
below_inf_right false false a l h = grind (arith, nat_tests)
below_inf_right false true a l h = refl
below_inf_right true false a l h = grind (arith, nat_tests)
below_inf_right true true a l h = grind (arith, nat_tests)

lt_sized : (c l : ℕ) → 0 < c → (x y : Float) (s t : Bool) (a b : ℕ) → 0 < l → Sized c l x s a → Sized c l y t b → lt x y ≡ below s a t b
unfolding Sized lt
lt_sized c l C nan y s t a b L p q = absurd p
lt_sized c l C (inf r) nan s t a b L p q = absurd q
lt_sized c l C (inf r) (inf u) s t a b L p q = rw (p.0, p.1, q.0, q.1) (below_infs s t l L)
lt_sized c l C (inf r) (fin u n d) s t a b L p q = rw (p.0, p.1) (below_inf_left s t l b q.1)
lt_sized c l C (fin r m e) nan s t a b L p q = absurd q
lt_sized c l C (fin r m e) (inf u) s t a b L p q = rw (q.0, q.1) (below_inf_right s t a l p.1)
lt_sized c l C (fin r m e) (fin u n d) s t a b L p q =
    rw (p.0.0, q.0.0) (below_fin s t c a b m n (up e) (up d) (down e) (down d) C (down_pos e) (down_pos d) p.0.1 q.0.1)

-- ---- the size of a pattern's value, by its exponent's field and its digits
size : ℕ → ℕ → ℕ
size zero t = t * 2 ^ 0
size (suc x) t = (hid binary64 + t) * 2 ^ x

-- a field's values lie below those of the next
size_below : (x t : ℕ) → t < hid binary64 → size x t < hid binary64 * 2 ^ x
unfolding size
size_below zero t h = omega arith
size_below (suc x) t h =
    let p : (hid binary64 + t) * 2 ^ x < (hid binary64 + hid binary64) * 2 ^ x = mul-lt-mul_of_pos_right (omega arith) (pow_pos x) in
    omega (arith, pow-suc 2 x, add-mul (hid binary64) (hid binary64) (2 ^ x))

size_field : (x y t u : ℕ) → t < hid binary64 → x < y → size x t < size y u
unfolding size
size_field x zero t u h k = omega arith
size_field x (suc y) t u h k =
    lt_of_lt_of_le (size_below x t h) (mul-le-mul (let a : hid binary64 ≤ hid binary64 + u = omega arith in a) (pow_mono (let b : x ≤ y = omega arith in b)))

size_digits : (x t u : ℕ) → t < u → size x t < size x u
unfolding size
size_digits zero t u h = omega arith
size_digits (suc x) t u h = mul-lt-mul_of_pos_right (omega arith) (pow_pos x)

size_of : ℕ → ℕ
size_of n = size (n / hid binary64) (n % hid binary64)

size_less : (a b : ℕ) → a < b → size_of a < size_of b
unfolding size_of
size_less a b h =
    elim (eq-or-lt_of_le (let p : a / hid binary64 ≤ b / hid binary64 = omega arith in p)) [
      | inl e ↦ rw e (size_digits (b / hid binary64) (a % hid binary64) (b % hid binary64) (omega arith))
      | inr k ↦ size_field (a / hid binary64) (b / hid binary64) (a % hid binary64) (b % hid binary64) (omega arith) k
    ]

size_zero : size_of 0 ≡ 0
unfolding size_of size
size_zero = refl

size_pos : (a : ℕ) → 0 < a → 0 < size_of a
size_pos a h = omega (arith, rw size_zero at (size_less 0 a h))

ltb_sizes : (a b : ℕ) → ltb (size_of a) (size_of b) ≡ ltb a b
ltb_sizes a b = go (cases_order a b)
  where
    go : (a ≡ b) ⊎ ((a < b) ⊎ (b < a)) → ltb (size_of a) (size_of b) ≡ ltb a b
    go (inl e) = rw e (grind (arith, nat_tests))
    go (inr (inl l)) = let h : size_of a < size_of b = size_less a b l in grind (arith, nat_tests)
    go (inr (inr l)) = let h : size_of b < size_of a = size_less b a l in grind (arith, nat_tests)

below_sizes : (s t : Bool) (a b : ℕ) → below s (size_of a) t (size_of b) ≡ below s a t b
below_sizes false false a b = ltb_sizes a b
below_sizes false true a b = refl
below_sizes true false zero zero = rw size_zero
below_sizes true false zero (suc b) = let h : 0 < size_of (suc b) = size_pos (suc b) (omega arith) in grind (arith, nat_tests)
below_sizes true false (suc a) b = let h : 0 < size_of (suc a) = size_pos (suc a) (omega arith) in grind (arith, nat_tests)
below_sizes true true a b = ltb_sizes b a

-- ---- what a pattern's fields are read as
sized_value : (c l : ℕ) (x : Float) (s : Bool) (a : ℕ) → HasValue x s a c → a < l → Sized c l x s a
unfolding Sized
sized_value c l nan s a v h = v
sized_value c l (inf r) s a v h = absurd v
sized_value c l (fin r m e) s a v h = (v, h)

fields_value : (s : Bool) (x t : ℕ) → x < 2047 → HasValue (of_fields binary64 s x t) s (size x t) (2 ^ 1074)
unfolding of_fields size
fields_value s zero t h = odd_sign 53 s t 0 1074
fields_value s (suc x) t h = rw (ne_eqb (suc x) 2047 (λ e. omega arith)) (odd_sign 53 s (hid binary64 + t) x 1074)

fields_infinite : (s : Bool) → of_fields binary64 s 2047 0 ≡ inf s
unfolding of_fields
fields_infinite s = refl

fields_sized : (s : Bool) (x t : ℕ) → t < hid binary64 → (x ≡ 2047 → t ≡ 0) → x ≤ 2047 → Sized (2 ^ 1074) (size 2047 0) (of_fields binary64 s x t) s (size x t)
unfolding Sized
fields_sized s x t h z k = elim (eq-or-lt_of_le k) [
  | inl e ↦ rw (e, z e, fields_infinite s) (refl, refl)
  | inr l ↦ sized_value (2 ^ 1074) (size 2047 0) (of_fields binary64 s x t) s (size x t) (fields_value s x t l) (size_field x 2047 t 0 h l)
]

pattern_sized : (n : ℕ) → T (not (nan_bits binary64 n)) → Sized (2 ^ 1074) (size 2047 0) (of_bits binary64 n) (leb (top binary64) n) (size_of (n % top binary64))
unfolding of_bits size_of
pattern_sized n k =
    let h : n % top binary64 ≤ 0x7ff0_0000_0000_0000 = nltb→le 0x7ff0_0000_0000_0000 (n % top binary64) (rw (nan_bits_above binary64 n) at k) in
    let m : n % hid binary64 ≡ n % top binary64 % hid binary64 = omega arith in
    rw m (fields_sized (leb (top binary64) n) (n % top binary64 / hid binary64) (n % top binary64 % hid binary64) (omega arith) (λ e. omega arith) (omega arith))

-- ---- the law
pub pattern_below : (a b : ℕ) → T (not (nan_bits binary64 a)) → T (not (nan_bits binary64 b))
    → lt (of_bits binary64 a) (of_bits binary64 b) ≡ below (leb (top binary64) a) (a % top binary64) (leb (top binary64) b) (b % top binary64)
pattern_below a b h k =
    let s = leb (top binary64) a in
    let t = leb (top binary64) b in
    lt_sized (2 ^ 1074) (size 2047 0) (pow_pos 1074) (of_bits binary64 a) (of_bits binary64 b) s t (size_of (a % top binary64)) (size_of (b % top binary64))
    (omega (arith, size_field 0 2047 0 0 (omega arith) (omega arith))) (pattern_sized a h) (pattern_sized b k)
    ∙ below_sizes s t (a % top binary64) (b % top binary64)

-- ---- with the sign clear
pattern_lt : (a b : ℕ) → a ≤ infinity → b ≤ infinity → lt (of_bits binary64 a) (of_bits binary64 b) ≡ ltb a b
pattern_lt a b h k =
    let e : a % top binary64 ≡ a = omega arith in
    let f : b % top binary64 ≡ b = omega arith in
    pattern_below a b (number_up_to_infinity a h) (number_up_to_infinity b k) ∙ rw (lt-leb (top binary64) a (omega arith), lt-leb (top binary64) b (omega arith), e, f)

number : (n : ℕ) → n ≤ infinity → NotNan (of_bits binary64 n)
number n h = subst (λ (b : Bool). T (not b)) (nan_bits_is binary64 n) (number_up_to_infinity n h)

pattern_le : (a b : ℕ) → a ≤ infinity → b ≤ infinity → le (of_bits binary64 a) (of_bits binary64 b) ≡ leb a b
pattern_le a b f g = go (leb a b) refl
  where
    x : Float
    x = of_bits binary64 a

    y : Float
    y = of_bits binary64 b

    above : b < a → (t : Bool) → le x y ≡ t → le x y ≡ false
    above l true e = absurd (lt_irrefl x (lt_of_le_of_lt x y x (T_from_true (le x y) e) (T_from_true (lt y x) (pattern_lt b a g f ∙ lt-ltb b a l))))
    above l false e = e

    go : (t : Bool) → leb a b ≡ t → le x y ≡ t
    go true e = is_true (le x y) (le_of_not-lt y x (number b g) (number a f) (T_from_false (lt y x) (pattern_lt b a g f ∙ le-ltb b a (leb-true a b e))))
    go false e = above (leb-false a b e) (le x y) refl

-- ---- the range
pub pattern_order : (n max : ℕ) → max < infinity → in_range n (of_bits binary64 max) ≡ leb n max
pattern_order n max f = go (leb n infinity) refl
  where
    go : (t : Bool) → leb n infinity ≡ t → in_range n (of_bits binary64 max) ≡ leb n max
    go true p = let h = leb-true n infinity p in in_range_below n (of_bits binary64 max) h ∙ pattern_le n max h (le_of_lt f)
    go false p = let h = leb-false n infinity p in in_range_above n (of_bits binary64 max) h ∙ sym (lt-leb n max (omega arith))
