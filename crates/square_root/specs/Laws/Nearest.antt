-- The mantissa of a root, and that the f64 of the nearest mantissa is the nearest f64. Assumes nothing.
use Rattle.std.specs.Prelude.{◌≡◌, ◌⊎◌, false, ℕ, zero, suc, ◌+◌, ◌-◌, ◌*◌, ◌^◌, ◌≤◌, ◌<◌, T, ℤ, pos, negsuc, Float}
use Rattle.std.proofs.Common.{sym, ap, ◌∙◌, subst, inl, inr, le_trans, le_of_eq, le_of_lt, lt_of_lt_of_le, lt_of_le_of_lt, lt_of_not-le, not-le_of_lt, eq-or-lt_of_le, mul-le-mul, mul-le-mul_right, mul-lt-mul_of_pos_right, lt_of_mul-lt-mul_right, mul-pos, mul-one, mul_assoc, mul_right_comm, add-mul, arith, lit<, pow_pos, pow_mono, pow-add}
use Rattle.std.proofs.Math.Nat.{mul-mul-mul_comm, pow-succ'}
use Rattle.std.proofs.Math.Decide.{dec_le}
use Rattle.std.specs.Float.{fin, binary64}
use Rattle.std.specs.Float.Ieee.{up, down, fits}
use Rattle.std.specs.Float.Ieee.Exact.{HasValue}
use Rattle.std.specs.Float.Ieee.Positive.{num, den, den_pos, value→cross}
use Rattle.numbers.specs.Laws.Thousandth.{held}
use Rattle.square_root.specs.ClosestRoot.{ClosestRoot, unsigned_finite}
use Rattle.square_root.specs.Laws.Squares.{square_le, square_lt, root_lt}
use Rattle.square_root.specs.Laws.Closest.{lt_fractions, value_plain}

-- x is m / 2 ^ e, and m is the whole number nearest to √n * 2 ^ e: twice that lies above 2 * m - 1 and below 2 * m + 1. It has 53 binary digits before its
-- point, so that near √n every f64 is a multiple of 1 / 2 ^ e.
pub record Nearest (n : ℕ) (x : Float) : Type 0 where
  pub m : ℕ
  pub e : ℕ
  pub full : 2 ^ 52 * 2 ^ 52 ≤ n * (2 ^ e * 2 ^ e)
  pub above_half : (2 * m - 1) * (2 * m - 1) < 4 * (n * (2 ^ e * 2 ^ e))
  pub below_half : 4 * (n * (2 ^ e * 2 ^ e)) < (2 * m + 1) * (2 * m + 1)
  pub number : T (fits binary64 x)
  pub value : HasValue x false m (2 ^ e)

m_least : (m N : ℕ) → 2 ^ 52 * 2 ^ 52 ≤ N → 4 * N < (2 * m + 1) * (2 * m + 1) → 2 ^ 52 ≤ m
m_least m N f h = let g : 2 ^ 53 < 2 * m + 1 = root_lt (2 ^ 53) (2 * m + 1) (lt_of_le_of_lt (omega arith) h) in omega arith

-- ---- between m / 2 ^ e and (m + 1) / 2 ^ e there is no f64, if m has 53 digits
-- v / d does not lie between m and m + 1
abbrev Apart : ℕ → ℕ → ℕ → Type 0
Apart m d v = (v ≤ m * d) ⊎ ((m + 1) * d ≤ v)

multiple : (m d t v : ℕ) → v ≡ t * d → Apart m d v
multiple m d t v h = go (dec_le t m)
  where
    go : Dec (t ≤ m) → Apart m d v
    go (yes l) = inl (le_trans (le_of_eq h) (mul-le-mul_right d l))
    go (no f) = inr (le_trans (mul-le-mul_right d (let g : m < t = lt_of_not-le f in omega arith)) (le_of_eq (sym h)))

apart_at : (m k e : ℕ) (z : ℤ) → 2 ^ 52 ≤ m → k < 2 ^ 53 → Apart m (down z) (k * up z * 2 ^ e)
apart_at m k e (pos a) M K = multiple m 1 (k * 2 ^ a * 2 ^ e) (k * 2 ^ a * 2 ^ e) (sym (mul-one (k * 2 ^ a * 2 ^ e)))
apart_at m k e (negsuc a) M K = go (dec_le (suc a) e)
  where
    go : Dec (suc a ≤ e) → Apart m (2 ^ suc a) (k * 1 * 2 ^ e)
    go (yes l) =
        let j = e - suc a in
        let i : e ≡ j + suc a = omega arith in
        multiple m (2 ^ suc a) (k * 2 ^ j) (k * 1 * 2 ^ e)
        (ap (λ (t : ℕ). t * 2 ^ e) (mul-one k) ∙ ap (λ (t : ℕ). k * 2 ^ t) i ∙ ap (λ (t : ℕ). k * t) (pow-add 2 j (suc a)) ∙ sym (mul_assoc k (2 ^ j) (2 ^ suc a)))
    go (no f) = inl (le_trans (below (2 ^ e)) (mul-le-mul M (le_trans (le_of_eq (sym (pow-succ' 2 e))) (pow_mono (lt_of_not-le f)))))
      where
        below : (b : ℕ) → k * 1 * b ≤ 2 ^ 52 * (2 * b)
        below b = let l : k * b ≤ 2 ^ 53 * b = mul-le-mul_right b (le_of_lt K) in omega arith

apart : (y : Float) (m e : ℕ) → T (unsigned_finite y) → T (fits binary64 y) → 2 ^ 52 ≤ m → Apart m (den y) (num y * 2 ^ e)
apart (fin false zero z) m e p f M = apart_at m 0 e z M (lit< tt)
apart (fin false (suc k) z) m e p f M = apart_at m (suc k) e z M (held k z f).few
apart lib.Ieee.nan m e p f M = elim p [ ]
apart (lib.Ieee.inf _) m e p f M = elim p [ ]
apart (fin mathlib.Core.Bool.true _ z) m e p f M = elim p [ ]

-- ---- over natural numbers: y / d is another number in units of 1 / 2 ^ e, and N is √n * 2 ^ e squared
apart_above : (m d y N : ℕ) → 0 < d → 4 * N < (2 * m + 1) * (2 * m + 1) → Apart m d y → m * d < y → 4 * N * (d * d) < (m * d + y) * (m * d + y)
apart_above m d y N D h (inl k) l = absurd (not-le_of_lt l k)
apart_above m d y N D h (inr k) l =
    lt_of_lt_of_le (mul-lt-mul_of_pos_right h (mul-pos D D))
    (le_trans (le_of_eq (mul-mul-mul_comm (2 * m + 1) (2 * m + 1) d d)) (square_le ((2 * m + 1) * d) (m * d + y) (omega arith)))

-- at the least mantissa the f64 below lie closer than 1 / 2 ^ e, and √n is not below it
apart_below : (m d y N : ℕ) → 0 < d → 2 ^ 52 * 2 ^ 52 ≤ N → (2 * m - 1) * (2 * m - 1) < 4 * N → 2 ^ 52 ≤ m → (2 ^ 52 ≤ m - 1 → Apart (m - 1) d y) → y < m * d → (m * d + y) * (m * d + y) < 4 * N * (d * d)
apart_below m d y N D f h M near l = go (eq-or-lt_of_le M)
  where
    half : m - 1 + 1 ≡ m → Apart (m - 1) d y → m * d + y ≤ (2 * m - 1) * d
    half i (inl k) = let j : 2 * m - 1 ≡ m + (m - 1) = omega arith in le_trans (omega arith) (le_of_eq (sym (ap (λ (t : ℕ). t * d) j ∙ add-mul m (m - 1) d)))
    half i (inr k) = absurd (not-le_of_lt l (subst (λ (t : ℕ). t * d ≤ y) i k))

    go : (2 ^ 52 ≡ m) ⊎ (2 ^ 52 < m) → (m * d + y) * (m * d + y) < 4 * N * (d * d)
    go (inl i) =
        lt_of_lt_of_le (square_lt (m * d + y) (2 * m * d) (omega arith))
        (le_trans (le_of_eq (sym (mul-mul-mul_comm (2 * m) (2 * m) d d))) (mul-le-mul_right (d * d) (subst (λ (t : ℕ). 2 * t * (2 * t) ≤ 4 * N) i (omega arith))))
    go (inr i) =
        lt_of_le_of_lt (square_le (m * d + y) ((2 * m - 1) * d) (half (omega arith) (near (omega arith))))
        (lt_of_le_of_lt (le_of_eq (sym (mul-mul-mul_comm (2 * m - 1) (2 * m - 1) d d))) (mul-lt-mul_of_pos_right h (mul-pos D D)))

-- ---- the same of x = a / c, which is m / p, and y = b / d
module _ (n a c b d m p : ℕ) (C : 0 < c) (P : 0 < p) (v : a * p ≡ m * c) where
  scaled_middle : (a * d + b * c) * (a * d + b * c) * (p * p) ≡ (m * d + b * p) * (m * d + b * p) * (c * c)
  scaled_middle =
      mul-mul-mul_comm (a * d + b * c) (a * d + b * c) p p
      ∙ ap (λ (z : ℕ). z * z) (spread a d b c p ∙ ap (λ (z : ℕ). z * d + b * p * c) v ∙ gather m c d (b * p))
      ∙ sym (mul-mul-mul_comm (m * d + b * p) (m * d + b * p) c c)
    where
      spread : (a d b c p : ℕ) → (a * d + b * c) * p ≡ a * p * d + b * p * c
      spread a d b c p = omega arith

      gather : (m c d g : ℕ) → m * c * d + g * c ≡ (m * d + g) * c
      gather m c d g = omega arith

  scaled_root : 4 * n * (c * d * (c * d)) * (p * p) ≡ 4 * (n * (p * p)) * (d * d) * (c * c)
  scaled_root = omega arith

  middle_above : 4 * (n * (p * p)) * (d * d) < (m * d + b * p) * (m * d + b * p) → 4 * n * (c * d * (c * d)) < (a * d + b * c) * (a * d + b * c)
  middle_above h = lt_of_mul-lt-mul_right (p * p) (lt_of_le_of_lt (le_of_eq scaled_root) (lt_of_lt_of_le (mul-lt-mul_of_pos_right h (mul-pos C C)) (le_of_eq (sym scaled_middle))))

  middle_below : (m * d + b * p) * (m * d + b * p) < 4 * (n * (p * p)) * (d * d) → (a * d + b * c) * (a * d + b * c) < 4 * n * (c * d * (c * d))
  middle_below h = lt_of_mul-lt-mul_right (p * p) (lt_of_le_of_lt (le_of_eq scaled_middle) (lt_of_lt_of_le (mul-lt-mul_of_pos_right h (mul-pos C C)) (le_of_eq (sym scaled_root))))

  other : a * d * p ≡ m * d * c
  other = mul_right_comm a d p ∙ ap (λ (z : ℕ). z * d) v ∙ mul_right_comm m c d

  above_mantissa : a * d < b * c → m * d < b * p
  above_mantissa h = lt_of_mul-lt-mul_right c (lt_of_le_of_lt (le_of_eq (sym other)) (lt_of_lt_of_le (mul-lt-mul_of_pos_right h P) (le_of_eq (mul_right_comm b c p))))

  below_mantissa : b * c < a * d → b * p < m * d
  below_mantissa h = lt_of_mul-lt-mul_right c (lt_of_le_of_lt (le_of_eq (mul_right_comm b p c)) (lt_of_lt_of_le (mul-lt-mul_of_pos_right h P) (le_of_eq other)))

pub nearest_closest : (n : ℕ) (x : Float) → Nearest n x → ClosestRoot n x
nearest_closest n x r =
    let p = 2 ^ r.e in
    let N = n * (p * p) in
    let P : 0 < p = pow_pos r.e in
    let v : num x * p ≡ r.m * den x = value→cross x r.m p r.value in
    let X : T (unsigned_finite x) = value_plain x r.m p r.value in
    let M : 2 ^ 52 ≤ r.m = m_least r.m N r.full r.below_half in
    record {
      number = r.number;
      plain = X;
      above = λ y f Y l.
          middle_above n (num x) (den x) (num y) (den y) r.m p (den_pos x) P v
          (apart_above r.m (den y) (num y * p) N (den_pos y) r.below_half (apart y r.m r.e Y f M)
          (above_mantissa n (num x) (den x) (num y) (den y) r.m p (den_pos x) P v (lt_fractions x y X Y l)));
      below = λ y f Y l.
          middle_below n (num x) (den x) (num y) (den y) r.m p (den_pos x) P v
          (apart_below r.m (den y) (num y * p) N (den_pos y) r.full r.above_half M (apart y (r.m - 1) r.e Y f)
          (below_mantissa n (num x) (den x) (num y) (den y) r.m p (den_pos x) P v (lt_fractions y x Y X l)));
    }
