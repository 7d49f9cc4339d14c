-- On whole numbers below 2 ^ 53 the sums, differences and comparisons of f64 are those of natural numbers. Assumes nothing.
use Rattle.std.specs.Prelude.{◌≡◌, refl, ℕ, ◌+◌, ◌-◌, ◌*◌, ◌^◌, ◌≤◌, ◌<◌, Bool, ◌&&◌, ◌||◌, T, leb, ℤ, pos, negsuc, Float}
use Rattle.std.proofs.Common.{sym, ◌∙◌, subst, zero-le, le_of_lt, le_of_eq, le_antisymm, mul-one, mul_comm, mul_assoc, mul_right_comm, add-mul, mul-le-mul_right, mul-lt-mul_of_pos_right, le_of_mul-le-mul_right, lt_of_mul-lt-mul_right, arith, ltb→lt, lt→ltb, leb→le, le→leb, eqb→eq, pow_pos}
use Rattle.std.proofs.Math.Path.{ap}
use Rattle.std.proofs.Math.Nat.{mul-pos, eq_of_mul-eq-mul_right}
use Rattle.std.proofs.Math.Bool.{true, false, cond, and-true}
use Rattle.std.proofs.Math.Dec.{ltb, eqb}
use borrow.Author.Tests.{ltb-true, ltb-false, le-leb, le-ltb, lt-ltb, eq-eqb}
use Rattle.std.specs.Float.{nan, inf, fin}
use Rattle.std.specs.Float.Ieee.{binary64, up, down, round, neg, sum, add, sub, lt, eq, le}
use Rattle.std.specs.Float.Ieee.Fits.{down_pos}
use Rattle.std.specs.Float.Ieee.Exact.{HasValue}
use Rattle.std.specs.Float.Ieee.Back.{round_whole}
use Rattle.std.specs.Float.Ieee.Scale.{round_same}
use Rattle.std.proofs.Math.Facts.{yes_eqb}
use Rattle.numbers.specs.Laws.Upto.{Upto}
use Rattle.lawful.specs.Whole.{is_whole, nat_of, Is}
use Rattle.lawful.specs.Lawful.{not_over}

-- ---- two fractions over one denominator c
summed : (x y a b c : ℕ) → x ≡ a * c → y ≡ b * c → (x + y) * 1 ≡ (a + b) * c
summed x y a b c p q = omega arith

taken : (x y a b c : ℕ) → b ≤ a → x ≡ a * c → y ≡ b * c → (x - y) * 1 ≡ (a - b) * c
taken x y a b c h p q =
    let k : a - b + b ≡ a = omega arith in
    let d : (a - b) * c + b * c ≡ a * c = sym (add-mul (a - b) b c) ∙ ap (λ (n : ℕ). n * c) k in
    omega arith

same : (p q : Bool) → (T p → T q) → (T q → T p) → p ≡ q
same true true f g = refl
same true false f g = absurd (f tt)
same false true f g = absurd (g tt)
same false false f g = refl

ltb_scaled : (a b c : ℕ) → 0 < c → ltb (a * c) (b * c) ≡ ltb a b
ltb_scaled a b c h =
    same (ltb (a * c) (b * c)) (ltb a b) (λ t. lt→ltb a b (lt_of_mul-lt-mul_right c (ltb→lt (a * c) (b * c) t)))
    (λ t. lt→ltb (a * c) (b * c) (mul-lt-mul_of_pos_right (ltb→lt a b t) h))

leb_scaled : (a b c : ℕ) → 0 < c → leb (a * c) (b * c) ≡ leb a b
leb_scaled a b c h =
    same (leb (a * c) (b * c)) (leb a b) (λ t. le→leb a b (le_of_mul-le-mul_right (leb→le (a * c) (b * c) t) h))
    (λ t. le→leb (a * c) (b * c) (mul-le-mul_right c (leb→le a b t)))

eqb_scaled : (a b c : ℕ) → 0 < c → eqb (a * c) (b * c) ≡ eqb a b
eqb_scaled a b c h =
    same (eqb (a * c) (b * c)) (eqb a b) (λ t. yes_eqb (eq_of_mul-eq-mul_right c h a b (eqb→eq (a * c) (b * c) t)))
    (λ t. yes_eqb (ap (λ (n : ℕ). n * c) (eqb→eq a b t)))

-- `le` of f64: less or equal
less_or_equal : (a b : ℕ) → (ltb a b || (eqb a b && true)) ≡ leb a b
less_or_equal a b = go (ltb a b) refl
  where
    go : (t : Bool) → ltb a b ≡ t → (t || (eqb a b && true)) ≡ leb a b
    go true p = sym (le-leb a b (le_of_lt (ltb-true a b p)))
    go false p =
        and-true (eqb a b)
        ∙ same (eqb a b) (leb a b) (λ t. le→leb a b (le_of_eq (eqb→eq a b t)))
        (λ t. subst T (sym (eq-eqb a b (le_antisymm (leb→le a b t) (ltb-false a b p)))) tt)

-- ---- what a whole number is written as, with its sign
finite : (P : Float → Type 0) (s : Bool) (n : ℕ) (x : Float) → HasValue x s n 1 → ((m : ℕ) (e : ℤ) → m * up e ≡ n * down e → P (fin s m e)) → P x
finite P s n nan u f = absurd u
finite P s n (inf t) u f = absurd u
finite P s n (fin t m e) u f = subst (λ (b : Bool). P (fin b m e)) (sym u.0) (f m e (sym (mul-one (m * up e)) ∙ u.1))

-- two of them, over one denominator
abbrev Shared : (Float → Float → Type 0) → Bool → ℕ → Bool → ℕ → Type 0
Shared P s a t b =
    (m : ℕ) (e : ℤ) (k : ℕ) (d : ℤ)
    → m * up e * down d ≡ a * (down e * down d) → k * up d * down e ≡ b * (down e * down d) → P (fin s m e) (fin t k d)

shared : (P : Float → Float → Type 0) (s : Bool) (a : ℕ) (t : Bool) (b : ℕ) (x y : Float) → HasValue x s a 1 → HasValue y t b 1 → Shared P s a t b → P x y
shared P s a t b x y u v f =
    finite (λ (z : Float). P z y) s a x u
    (λ m e p. finite (λ (z : Float). P (fin s m e) z) t b y v
    (λ k d q. f m e k d (spread (m * up e) a (down e) (down d) p) (spread (k * up d) b (down d) (down e) q ∙ ap (λ (n : ℕ). b * n) (mul_comm (down d) (down e)))))
  where
    spread : (x a p q : ℕ) → x ≡ a * p → x * q ≡ a * (p * q)
    spread x a p q h = ap (λ (n : ℕ). n * q) h ∙ mul_assoc a p q

-- ---- comparisons
module _ (a b : ℕ) (x y : Float) (u : Is a x) (v : Is b y) where
  pub lt_whole : lt x y ≡ ltb a b
  unfolding lt
  lt_whole =
      shared (λ (p q : Float). lt p q ≡ ltb a b) false a false b x y u v
      (λ m e k d p q. rw (p, q) (ltb_scaled a b (down e * down d) (mul-pos (down_pos e) (down_pos d))))

  pub eq_whole : eq x y ≡ eqb a b
  unfolding eq
  eq_whole =
      shared (λ (p q : Float). eq p q ≡ eqb a b) false a false b x y u v
      (λ m e k d p q. and-true (eqb (m * up e * down d) (k * up d * down e)) ∙ rw (p, q) (eqb_scaled a b (down e * down d) (mul-pos (down_pos e) (down_pos d))))

  pub le_whole : le x y ≡ leb a b
  unfolding le
  le_whole = rw (lt_whole, eq_whole, ← and-true (eqb a b)) (less_or_equal a b)

  -- the later of two, as code says it
  pub later_whole : Is (cond (ltb a b) b a) (cond (lt x y) y x)
  later_whole = rw lt_whole (go (ltb a b))
    where
      go : (t : Bool) → Is (cond t b a) (cond t y x)
      go true = v
      go false = u

  -- ---- sums and differences
  add_is : add binary64 x y ≡ round binary64 false (a + b) 1
  unfolding add sum
  add_is =
      shared (λ (p q : Float). add binary64 p q ≡ round binary64 false (a + b) 1) false a false b x y u v
      (λ m e k d p q.
      round_same binary64 false (m * up e * down d + k * up d * down e) (down e * down d) (a + b) 1 (mul-pos (down_pos e) (down_pos d)) (pow_pos 0)
      (summed _ _ a b (down e * down d) p q))

  pub add_whole : a + b ≤ 2 ^ 53 → Is (a + b) (add binary64 x y)
  add_whole h = subst (Is (a + b)) (sym add_is) (round_whole binary64 false (a + b) h)

  sub_is : b ≤ a → sub binary64 x y ≡ round binary64 false (a - b) 1
  unfolding sub add neg sum
  sub_is h =
      shared (λ (p q : Float). sub binary64 p q ≡ round binary64 false (a - b) 1) false a false b x y u v
      (λ m e k d p q.
      rw (below m e k d p q)
      (round_same binary64 false (m * up e * down d - k * up d * down e) (down e * down d) (a - b) 1 (mul-pos (down_pos e) (down_pos d)) (pow_pos 0)
      (taken _ _ a b (down e * down d) h p q)))
    where
      below : (m : ℕ) (e : ℤ) (k : ℕ) (d : ℤ) → m * up e * down d ≡ a * (down e * down d) → k * up d * down e ≡ b * (down e * down d) → ltb (m * up e * down d) (k * up d * down e) ≡ false
      below m e k d p q = rw (p, q) (ltb_scaled a b (down e * down d) (mul-pos (down_pos e) (down_pos d)) ∙ le-ltb a b h)

  pub sub_whole : a ≤ 2 ^ 53 → b ≤ a → Is (a - b) (sub binary64 x y)
  sub_whole h k = subst (Is (a - b)) (sym (sub_is k)) (round_whole binary64 false (a - b) (omega arith))

  -- a difference below 0
  sub_below_is : a < b → sub binary64 x y ≡ round binary64 true (b - a) 1
  unfolding sub add neg sum
  sub_below_is h =
      shared (λ (p q : Float). sub binary64 p q ≡ round binary64 true (b - a) 1) false a false b x y u v
      (λ m e k d p q.
      let c = down e * down d in
      let o = mul-pos (down_pos e) (down_pos d) in
      rw (ap (λ (n : ℕ). ltb n (k * up d * down e)) p ∙ ap (λ (n : ℕ). ltb (a * c) n) q ∙ ltb_scaled a b c o ∙ lt-ltb a b h)
      (round_same binary64 true (k * up d * down e - m * up e * down d) c (b - a) 1 o (pow_pos 0) (taken _ _ b a c (le_of_lt h) q p)))

  pub sub_below : a < b → b ≤ 2 ^ 53 → HasValue (sub binary64 x y) true (b - a) 1
  sub_below h k = subst (λ (z : Float). HasValue z true (b - a) 1) (sym (sub_below_is h)) (round_whole binary64 true (b - a) (omega arith))

-- ---- a number below 0 and one from 0 up
module _ (a b : ℕ) (x y : Float) (u : HasValue x true a 1) (v : Is b y) where
  back_is : add binary64 x y ≡ cond (ltb a b) (round binary64 false (b - a) 1) (round binary64 (ltb b a) (a - b) 1)
  unfolding add sum
  back_is =
      shared (λ (p q : Float). add binary64 p q ≡ cond (ltb a b) (round binary64 false (b - a) 1) (round binary64 (ltb b a) (a - b) 1)) true a false b x y u v
      (λ m e k d p q. over (m * up e * down d) (k * up d * down e) (down e * down d) (mul-pos (down_pos e) (down_pos d)) p q)
    where
      over : (i j c : ℕ) → 0 < c → i ≡ a * c → j ≡ b * c
          → cond (ltb i j) (round binary64 false (j - i) c) (round binary64 (ltb j i) (i - j) c) ≡ cond (ltb a b) (round binary64 false (b - a) 1) (round binary64 (ltb b a) (a - b) 1)
      over i j c o p q = rw (scaled a b i j p q, scaled b a j i q p) (go (ltb a b) refl)
        where
          scaled : (a b i j : ℕ) → i ≡ a * c → j ≡ b * c → ltb i j ≡ ltb a b
          scaled a b i j p q = ap (λ (n : ℕ). ltb n j) p ∙ ap (λ (n : ℕ). ltb (a * c) n) q ∙ ltb_scaled a b c o

          go : (t : Bool) → ltb a b ≡ t → cond t (round binary64 false (j - i) c) (round binary64 (ltb b a) (i - j) c) ≡ cond t (round binary64 false (b - a) 1) (round binary64 (ltb b a) (a - b) 1)
          go true e = round_same binary64 false (j - i) c (b - a) 1 o (pow_pos 0) (taken _ _ b a c (le_of_lt (ltb-true a b e)) q p)
          go false e = round_same binary64 (ltb b a) (i - j) c (a - b) 1 o (pow_pos 0) (taken _ _ a b c (ltb-false a b e) p q)

  pub add_back : a ≤ b → b ≤ 2 ^ 53 → Is (b - a) (add binary64 x y)
  add_back h k = rw (back_is, le-ltb b a h) (go (ltb a b) refl)
    where
      go : (t : Bool) → ltb a b ≡ t → Is (b - a) (cond t (round binary64 false (b - a) 1) (round binary64 false (a - b) 1))
      go true e = round_whole binary64 false (b - a) (omega arith)
      go false e =
          let l = ltb-false a b e in
          subst (λ (n : ℕ). Is n (round binary64 false (a - b) 1)) (omega arith) (round_whole binary64 false (a - b) (omega arith))

  pub add_below : b < a → a ≤ 2 ^ 53 → HasValue (add binary64 x y) true (a - b) 1
  add_below h k = rw (back_is, le-ltb a b (le_of_lt h), lt-ltb b a h) (round_whole binary64 true (a - b) (omega arith))

-- ---- a field's number
pub whole_is : (x : Float) → T (is_whole x) → Is (nat_of x) x
whole_is nan t = absurd t
whole_is (inf s) t = absurd t
whole_is (fin true m e) t = absurd t
whole_is (fin false m (pos e)) t = (refl, refl)
whole_is (fin false m (negsuc e)) t = absurd t

pub is_upto : (n : ℕ) (x : Float) → Is n x → Upto n x
is_upto n x u = finite (Upto n) false n x u (λ m e p. le_of_eq p)

pub whole_upto : (k : ℕ) (x : Float) → Upto k x → nat_of x ≤ k
whole_upto k nan u = absurd u
whole_upto k (inf s) u = absurd u
whole_upto k (fin true m e) u = absurd u
whole_upto k (fin false m (pos e)) u = omega arith
whole_upto k (fin false m (negsuc e)) u = zero-le

-- a maximum may have a fraction
pub le_maximum : (k n : ℕ) (x y : Float) → Is n x → Upto k y → le x y ≡ not_over n y
unfolding le lt eq
le_maximum k n x nan u v = absurd v
le_maximum k n x (inf s) u v = absurd v
le_maximum k n x (fin true m e) u v = absurd v
le_maximum k n x (fin false m e) u v =
    finite (λ (z : Float). le z (fin false m e) ≡ leb (n * down e) (m * up e)) false n x u
    (λ i d p. less_or_equal (i * up d * down e) (m * up e * down d)
    ∙ ap (λ (j : ℕ). leb j (m * up e * down d)) (ap (λ (j : ℕ). j * down e) p ∙ mul_right_comm n (down d) (down e))
    ∙ leb_scaled (n * down e) (m * up e) (down d) (down_pos d))
