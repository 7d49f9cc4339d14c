-- What follows of a root: it is one number, it grows with n, and it is exact where it is whole. Assumes nothing.
use Rattle.std.specs.Prelude.{◌≡◌, refl, true, false, ℕ, ◌+◌, ◌-◌, ◌*◌, ◌/◌, ◌^◌, ◌≤◌, ◌<◌, T, Float}
use Rattle.std.proofs.Common.{sym, ap, ◌∙◌, true≢false, le_of_eq, lt_of_lt_of_le, lt_of_le_of_lt, lt_of_not-le, le_antisymm, mul-one, mul-le-mul_right, mul_comm, mul_right_comm, arith, ltb→lt, lt→ltb, lit≤}
use Rattle.std.proofs.Math.Nat.{mul-div-mul_right}
use Rattle.std.proofs.Math.Decide.{dec_le}
use Rattle.std.specs.Float.{fin, binary64}
use Rattle.std.specs.Float.Ieee.{hid, size, up, down, lt, le, fits, round, odd, of_fields, of_bits, to_bits}
use Rattle.std.specs.Float.Ieee.Bits.{of_bits-to_bits}
use Rattle.std.specs.Float.Ieee.Fits.{round-fits, down_pos}
use Rattle.std.specs.Float.Ieee.Exact.{HasValue}
use Rattle.std.specs.Float.Ieee.Order.{le_of_values}
use Rattle.std.specs.Float.Ieee.Positive.{num, den, den_pos, value→cross}
use Rattle.numbers.specs.Range.{whole}
use Rattle.numbers.specs.Laws.Upto.{exact}
use Rattle.square_root.specs.ClosestRoot.{ClosestRoot, unsigned_finite}
use Rattle.square_root.specs.Laws.Squares.{square_lt}

-- ---- the order of finite numbers from 0 up, as one of fractions
pub lt_fractions : (x y : Float) → T (unsigned_finite x) → T (unsigned_finite y) → T (lt x y) → num x * den y < num y * den x
unfolding lt
lt_fractions (fin false m e) (fin false n d) p q h = ltb→lt (m * up e * down d) (n * up d * down e) h
lt_fractions lib.Ieee.nan y p q h = elim p [ ]
lt_fractions (lib.Ieee.inf _) y p q h = elim p [ ]
lt_fractions (fin false m e) lib.Ieee.nan p q h = elim q [ ]
lt_fractions (fin false m e) (lib.Ieee.inf _) p q h = elim q [ ]
lt_fractions (fin false m e) (fin true n d) p q h = elim q [ ]
lt_fractions (fin true m e) y p q h = elim p [ ]

fractions_lt : (x y : Float) → T (unsigned_finite x) → T (unsigned_finite y) → num x * den y < num y * den x → T (lt x y)
unfolding lt
fractions_lt (fin false m e) (fin false n d) p q h = lt→ltb (m * up e * down d) (n * up d * down e) h
fractions_lt lib.Ieee.nan y p q h = elim p [ ]
fractions_lt (lib.Ieee.inf _) y p q h = elim p [ ]
fractions_lt (fin false m e) lib.Ieee.nan p q h = elim q [ ]
fractions_lt (fin false m e) (lib.Ieee.inf _) p q h = elim q [ ]
fractions_lt (fin false m e) (fin true n d) p q h = elim q [ ]
fractions_lt (fin true m e) y p q h = elim p [ ]

own_fraction : (x : Float) → T (unsigned_finite x) → HasValue x false (num x) (den x)
own_fraction (fin false m e) p = (refl, refl)
own_fraction lib.Ieee.nan p = elim p [ ]
own_fraction (lib.Ieee.inf _) p = elim p [ ]
own_fraction (fin true m e) p = elim p [ ]

fractions_le : (x y : Float) → T (unsigned_finite x) → T (unsigned_finite y) → num x * den y ≤ num y * den x → T (le x y)
fractions_le x y p q h = le_of_values x y (num x) (den x) (num y) (den y) (den_pos x) (den_pos y) (own_fraction x p) (own_fraction y q) h

pub value_plain : (x : Float) (a c : ℕ) → HasValue x false a c → T (unsigned_finite x)
value_plain (fin true m e) a c h = absurd (true≢false h.0)
value_plain (fin false m e) a c h = tt
value_plain lib.Ieee.nan a c h = elim h [ ]
value_plain (lib.Ieee.inf _) a c h = elim h [ ]

-- two f64 of one value have one pattern, so they are one
same_value : (x y : Float) → T (fits binary64 x) → T (fits binary64 y) → T (unsigned_finite x) → T (unsigned_finite y) → num x * den y ≡ num y * den x → x ≡ y
unfolding to_bits
same_value (fin false m e) (fin false n d) f g p q h =
    sym (of_bits-to_bits binary64 (fin false m e) f)
    ∙ ap (λ (t : ℕ). of_bits binary64 (pattern t)) (scaled (m * up e) (down e) (n * up d) (down d) (down_pos e) (down_pos d) h)
    ∙ of_bits-to_bits binary64 (fin false n d) g
  where
    pattern : ℕ → ℕ
    pattern t = 0 + (size t - 53) * hid binary64 + t / 2 ^ (size t - 53)

    scaled : (a c b d : ℕ) → 0 < c → 0 < d → a * d ≡ b * c → a * 2 ^ 1074 / c ≡ b * 2 ^ 1074 / d
    scaled a c b d C D h =
        sym (mul-div-mul_right (a * 2 ^ 1074) c D)
        ∙ ap (λ (t : ℕ). t / (c * d)) (mul_right_comm a (2 ^ 1074) d ∙ ap (λ (t : ℕ). t * 2 ^ 1074) h ∙ mul_right_comm b c (2 ^ 1074))
        ∙ ap (λ (t : ℕ). b * 2 ^ 1074 * c / t) (mul_comm c d)
        ∙ mul-div-mul_right (b * 2 ^ 1074) d C
same_value lib.Ieee.nan y f g p q h = elim p [ ]
same_value (lib.Ieee.inf _) y f g p q h = elim p [ ]
same_value (fin false m e) lib.Ieee.nan f g p q h = elim q [ ]
same_value (fin false m e) (lib.Ieee.inf _) f g p q h = elim q [ ]
same_value (fin false m e) (fin true n d) f g p q h = elim q [ ]
same_value (fin true m e) y f g p q h = elim p [ ]

-- ---- the root grows with n
module _ (n k : ℕ) (x y : Float) (h : n ≤ k) (r : ClosestRoot n x) (s : ClosestRoot k y) where
  grown : num x * den y ≤ num y * den x
  grown = go (dec_le (num x * den y) (num y * den x))
    where
      -- their middle would lie below √n and above √k
      crossed : (a b c d : ℕ) → (a * d + b * c) * (a * d + b * c) < 4 * n * (c * d * (c * d)) → 4 * k * (d * c * (d * c)) < (b * c + a * d) * (b * c + a * d) → ⊥
      crossed a b c d p q = let l : n * (4 * (c * d * (c * d))) ≤ k * (4 * (c * d * (c * d))) = mul-le-mul_right (4 * (c * d * (c * d))) h in omega arith

      go : Dec (num x * den y ≤ num y * den x) → num x * den y ≤ num y * den x
      go (yes l) = l
      go (no f) =
          let l : T (lt y x) = fractions_lt y x s.plain r.plain (lt_of_not-le f) in
          absurd (crossed (num x) (num y) (den x) (den y) (r.below y s.number s.plain l) (s.above x r.number r.plain l))

  pub closest_grows : T (le x y)
  closest_grows = fractions_le x y r.plain s.plain grown

pub closest_unique : (n : ℕ) (x y : Float) → ClosestRoot n x → ClosestRoot n y → x ≡ y
closest_unique n x y r s =
    let l : n ≤ n = omega arith in
    same_value x y r.number s.number r.plain s.plain (le_antisymm (grown n n x y l r s) (grown n n y x l s r))

-- ---- whole numbers
-- the root of k * k is k
pub whole_closest : (k : ℕ) → k ≤ 2 ^ 53 → ClosestRoot (k * k) (whole k)
whole_closest k K =
    let x = whole k in
    let v = exact k K in
    let p = value_plain x k 1 v in
    let e : num x ≡ k * den x = sym (mul-one (num x)) ∙ value→cross x k 1 v in
    record {
      number = round-fits binary64 false k 1;
      plain = p;
      above = λ y f q l. over (num x) (den x) (num y) (den y) e (lt_fractions x y p q l);
      below = λ y f q l. under (num x) (den x) (num y) (den y) e (lt_fractions y x q p l);
    }
  where
    square : (c d : ℕ) → 4 * (k * k) * (c * d * (c * d)) ≡ 2 * (k * c * d) * (2 * (k * c * d))
    square c d = omega arith

    over : (a c b d : ℕ) → a ≡ k * c → a * d < b * c → 4 * (k * k) * (c * d * (c * d)) < (a * d + b * c) * (a * d + b * c)
    over a c b d e l = lt_of_le_of_lt (le_of_eq (square c d)) (square_lt (2 * (k * c * d)) (a * d + b * c) (let g : a * d ≡ k * c * d = ap (λ (z : ℕ). z * d) e in omega arith))

    under : (a c b d : ℕ) → a ≡ k * c → b * c < a * d → (a * d + b * c) * (a * d + b * c) < 4 * (k * k) * (c * d * (c * d))
    under a c b d e l = lt_of_lt_of_le (square_lt (a * d + b * c) (2 * (k * c * d)) (let g : a * d ≡ k * c * d = ap (λ (z : ℕ). z * d) e in omega arith)) (le_of_eq (sym (square c d)))

pub closest_whole : (k : ℕ) → k ≤ 2 ^ 53 → (x : Float) → ClosestRoot (k * k) x → x ≡ whole k
closest_whole k K x r = closest_unique (k * k) x (whole k) r (whole_closest k K)

-- +0, and not -0
pub closest_zero : (x : Float) → ClosestRoot 0 x → x ≡ of_bits binary64 0
unfolding round of_bits of_fields odd
closest_zero x r = closest_whole 0 (lit≤ tt) x r

pub closest_at_most : (n k : ℕ) (x : Float) → k ≤ 2 ^ 53 → n ≤ k * k → ClosestRoot n x → T (le x (whole k))
closest_at_most n k x K h r = closest_grows n (k * k) x (whole k) h r (whole_closest k K)

pub closest_at_least : (n k : ℕ) (x : Float) → k ≤ 2 ^ 53 → k * k ≤ n → ClosestRoot n x → T (le (whole k) x)
closest_at_least n k x K h r = closest_grows (k * k) n (whole k) x h (whole_closest k K) r
