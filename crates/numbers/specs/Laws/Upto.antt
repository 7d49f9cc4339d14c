-- Bounds through f64 arithmetic: sums, differences and products of values that are finite and not negative stay so, below a bound that the format holds exactly.
-- Assumes nothing.
use Rattle.std.specs.Prelude.{◌≡◌, refl, ℕ, suc, ◌+◌, ◌-◌, ◌*◌, ◌^◌, ◌≤◌, ◌<◌, Bool, true, false, not, ◌&&◌, ◌||◌, cond, T, ltb, eqb, Float}
use Rattle.std.proofs.Common.{sym, ap, ◌∙◌, subst, le_trans, le_of_eq, le_of_lt, mul-one, mul_comm, mul_assoc, mul_right_comm, mul-le-mul, mul-le-mul_right, le_of_mul-le-mul_right, add-mul, add-le-add, sub-le, mul-pos, not-le_of_lt, arith, true≢false, ltb→lt, eqb→eq, pow-add, pow_pos, pow_mono, shl_lt}
use Rattle.std.proofs.Math.Nat.{mul-mul-mul_comm}
use Rattle.std.specs.Float.{nan, inf, fin, Format, binary64}
use Rattle.std.specs.Float.Ieee.{prec, emax, low, up, down, odd, units, round, neg, sum, add, sub, mul, lt, le, is_nan}
use Rattle.std.specs.Float.Ieee.Fits.{down_pos, and_l, round_is}
use Rattle.std.specs.Float.Ieee.Exact.{HasValue, odd_sign, round_exact}
use Rattle.std.specs.Float.Ieee.Back.{round_whole}
use Rattle.std.specs.Float.Ieee.Order.{round_mono}
use Rattle.std.proofs.lemmas.Float.{le_of_lt as float_le_of_lt}

-- x is finite, its sign is clear (so it is not -0 either), and it is n at most
abbrev pub Upto : ℕ → Float → Type 0
Upto n nan = ⊥
Upto n (inf s) = ⊥
Upto n (fin true m e) = ⊥
Upto n (fin false m e) = m * up e ≤ n * down e

-- the format holds the whole number n
abbrev pub Exact : ℕ → Type 0
Exact n = HasValue (round binary64 false n 1) false n 1

pub exact : (n : ℕ) → n ≤ 2 ^ 53 → Exact n
exact n h = round_whole binary64 false n h

pub exact_scaled : (q j : ℕ) → q < 2 ^ 53 → j ≤ 971 → Exact (q * 2 ^ j)
exact_scaled q j h k =
    round_exact binary64 false (q * 2 ^ j) 1 q (j + 1074) (pow_pos 0) h
    (le_trans (shl_lt 53 (j + 1074) h) (pow_mono {j = 2098} (omega arith)))
    (mul_assoc q (2 ^ j) (2 ^ 1074) ∙ ap (λ (n : ℕ). q * n) (sym (pow-add 2 j 1074)) ∙ sym (mul-one (q * 2 ^ (j + 1074))))

pub no_nan : (n : ℕ) (x : Float) → Upto n x → T (not (is_nan x))
unfolding is_nan
no_nan n nan h = absurd h
no_nan n (inf s) h = absurd h
no_nan n (fin s m e) h = tt

pub widen : (a b : ℕ) (x : Float) → a ≤ b → Upto a x → Upto b x
widen a b nan h u = u
widen a b (inf s) h u = u
widen a b (fin true m e) h u = u
widen a b (fin false m e) h u = le_trans u (mul-le-mul_right (down e) h)

-- ---- rounding
-- what `round f false` gives has its sign clear
abbrev pub Clear : Float → Type 0
Clear nan = ⊥
Clear (inf s) = s ≡ false
Clear (fin s m e) = s ≡ false

pub clear_value : (x : Float) (a c : ℕ) → HasValue x false a c → Clear x
clear_value nan a c h = h
clear_value (inf s) a c h = absurd h
clear_value (fin s m e) a c h = h.0

units_clear : (f : Format) (q k : ℕ) → Clear (units f false q k)
unfolding units
units_clear f q k = go (ltb (q * 2 ^ k) (2 ^ (low f + suc (emax f))))
  where
    go : (b : Bool) → Clear (cond b (odd (suc (prec f)) false q k (low f)) (inf false))
    go true = clear_value (odd (suc (prec f)) false q k (low f)) (q * 2 ^ k) (2 ^ low f) (odd_sign (suc (prec f)) false q k (low f))
    go false = refl

pub round_clear : (f : Format) (a c : ℕ) → Clear (round f false a c)
round_clear f a c = subst Clear (sym (round_is f false a c)) (units_clear f _ _)

pub or_le : (a b : ℕ) → T (ltb a b || (eqb a b && true)) → a ≤ b
or_le a b t = go (ltb a b) (ltb→lt a b) t
  where
    go : (x : Bool) → (T x → a < b) → T (x || (eqb a b && true)) → a ≤ b
    go true h u = le_of_lt (h tt)
    go false h u = le_of_eq (eqb→eq a b (and_l (eqb a b) true u))

-- what is clear and at most the value n is at most n
pub below_value : (z y : Float) (n : ℕ) → Clear z → HasValue y false n 1 → T (le z y) → Upto n z
unfolding le
below_value nan y n z v h = z
below_value (inf true) y n z v h = absurd (true≢false z)
below_value (inf false) nan n z v h = v
below_value (inf false) (inf t) n z v h = v
below_value (inf false) (fin t k d) n z v h = absurd h
below_value (fin true m e) y n z v h = absurd (true≢false z)
below_value (fin false m e) nan n z v h = absurd v
below_value (fin false m e) (inf t) n z v h = absurd v
below_value (fin false m e) (fin true k d) n z v h = absurd (true≢false v.0)
below_value (fin false m e) (fin false k d) n z v h =
    le_of_mul-le-mul_right {k = down d}
    (le_trans (or_le (m * up e * down d) (k * up d * down e) h)
    (le_of_eq (ap (λ (i : ℕ). i * down e) (sym (mul-one (k * up d)) ∙ v.1) ∙ mul_right_comm n (down d) (down e))))
    (down_pos d)

pub round_upto : (a c n : ℕ) → 0 < c → a ≤ n * c → Exact n → Upto n (round binary64 false a c)
round_upto a c n C h v =
    below_value (round binary64 false a c) (round binary64 false n 1) n (round_clear binary64 a c) v
    (round_mono binary64 a c n 1 C (pow_pos 0) (le_trans (le_of_eq (mul-one a)) h))

-- ---- the operations
pub add_upto : (a b n : ℕ) (x y : Float) → Upto a x → Upto b y → a + b ≤ n → Exact n → Upto n (add binary64 x y)
unfolding add sum
add_upto a b n nan y u v h w = absurd u
add_upto a b n (inf s) y u v h w = absurd u
add_upto a b n (fin true m e) y u v h w = absurd u
add_upto a b n (fin false m e) nan u v h w = absurd v
add_upto a b n (fin false m e) (inf t) u v h w = absurd v
add_upto a b n (fin false m e) (fin true k d) u v h w = absurd v
add_upto a b n (fin false m e) (fin false k d) u v h w =
    round_upto (m * up e * down d + k * up d * down e) (down e * down d) n (mul-pos (down_pos e) (down_pos d))
    (le_trans (add-le-add (mul-le-mul_right (down d) u) (mul-le-mul_right (down e) v))
    (le_trans (le_of_eq (both (down e) (down d))) (mul-le-mul_right (down e * down d) h)))
    w
  where
    both : (p q : ℕ) → a * p * q + b * q * p ≡ (a + b) * (p * q)
    both p q = simp (add-mul, mul_assoc) (ap (λ (i : ℕ). a * (p * q) + b * i) (mul_comm q p))

pub mul_upto : (a b n : ℕ) (x y : Float) → Upto a x → Upto b y → a * b ≤ n → Exact n → Upto n (mul binary64 x y)
unfolding mul
mul_upto a b n nan y u v h w = absurd u
mul_upto a b n (inf s) y u v h w = absurd u
mul_upto a b n (fin true m e) y u v h w = absurd u
mul_upto a b n (fin false m e) nan u v h w = absurd v
mul_upto a b n (fin false m e) (inf t) u v h w = absurd v
mul_upto a b n (fin false m e) (fin true k d) u v h w = absurd v
mul_upto a b n (fin false m e) (fin false k d) u v h w =
    round_upto (m * up e * (k * up d)) (down e * down d) n (mul-pos (down_pos e) (down_pos d))
    (le_trans (mul-le-mul u v) (le_trans (le_of_eq (mul-mul-mul_comm a (down e) b (down d))) (mul-le-mul_right (down e * down d) h)))
    w

-- a difference x - y for y ≤ x
pub sub_upto : (a b n : ℕ) (x y : Float) → Upto a x → Upto b y → T (le y x) → a ≤ n → Exact n → Upto n (sub binary64 x y)
unfolding sub add neg sum le
sub_upto a b n nan y u v l h w = absurd u
sub_upto a b n (inf s) y u v l h w = absurd u
sub_upto a b n (fin true m e) y u v l h w = absurd u
sub_upto a b n (fin false m e) nan u v l h w = absurd v
sub_upto a b n (fin false m e) (inf t) u v l h w = absurd v
sub_upto a b n (fin false m e) (fin true k d) u v l h w = absurd v
sub_upto a b n (fin false m e) (fin false k d) u v l h w =
    go (ltb (m * up e * down d) (k * up d * down e)) (ltb→lt (m * up e * down d) (k * up d * down e))
  where
    go : (t : Bool) → (T t → m * up e * down d < k * up d * down e)
        → Upto n (cond t (round binary64 true (k * up d * down e - m * up e * down d) (down e * down d)) (round binary64 false (m * up e * down d - k * up d * down e) (down e * down d)))
    go true i = absurd (not-le_of_lt (i tt) (or_le (k * up d * down e) (m * up e * down d) l))
    go false i =
        round_upto (m * up e * down d - k * up d * down e) (down e * down d) n (mul-pos (down_pos e) (down_pos d))
        (le_trans (sub-le (m * up e * down d) (k * up d * down e))
        (le_trans (mul-le-mul_right (down d) u) (le_trans (le_of_eq (mul_assoc a (down e) (down d))) (mul-le-mul_right (down e * down d) h))))
        w

pub pick_upto : (n : ℕ) (t : Bool) (x y : Float) → Upto n x → Upto n y → Upto n (cond t x y)
pick_upto n true x y u v = u
pick_upto n false x y u v = v

-- ---- bounds in units of 2 ^ j
abbrev pub Units : ℕ → ℕ → Float → Type 0
Units j q x = Upto (q * 2 ^ j) x

pub add_units : (j a b : ℕ) (x y : Float) → j ≤ 971 → a + b < 2 ^ 53 → Units j a x → Units j b y → Units j (a + b) (add binary64 x y)
add_units j a b x y h k u v = add_upto (a * 2 ^ j) (b * 2 ^ j) ((a + b) * 2 ^ j) x y u v (le_of_eq (sym (add-mul a b (2 ^ j)))) (exact_scaled (a + b) j k h)

pub mul_units : (i j a b : ℕ) (x y : Float) → i + j ≤ 971 → a * b < 2 ^ 53 → Units i a x → Units j b y → Units (i + j) (a * b) (mul binary64 x y)
mul_units i j a b x y h k u v =
    mul_upto (a * 2 ^ i) (b * 2 ^ j) (a * b * 2 ^ (i + j)) x y u v
    (le_of_eq (mul-mul-mul_comm a (2 ^ i) b (2 ^ j) ∙ ap (λ (n : ℕ). a * b * n) (sym (pow-add 2 i j)))) (exact_scaled (a * b) (i + j) k h)

pub sub_units : (j a b : ℕ) (x y : Float) → j ≤ 971 → a < 2 ^ 53 → Units j a x → Units j b y → T (le y x) → Units j a (sub binary64 x y)
sub_units j a b x y h k u v l = sub_upto (a * 2 ^ j) (b * 2 ^ j) (a * 2 ^ j) x y u v l (le_of_eq refl) (exact_scaled a j k h)

pub widen_units : (j a b : ℕ) (x : Float) → a ≤ b → Units j a x → Units j b x
widen_units j a b x h u = widen (a * 2 ^ j) (b * 2 ^ j) x (mul-le-mul_right (2 ^ j) h) u

pub lt→le : (x y : Float) → T (lt x y) → T (le x y)
lt→le = float_le_of_lt
