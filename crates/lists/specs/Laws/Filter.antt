-- The numbers of a run that a test keeps, ascending. Assumes nothing.
use Rattle.std.specs.Prelude.{◌≡◌, refl, ℕ, zero, suc, ◌+◌, ◌-◌, ◌≤◌, ◌<◌, Bool, true, false, ◌&&◌, List, [], ◌++◌, leb, ltb, eqb, length, get_or}
use Rattle.std.proofs.Common.{sym, ap, ◌∙◌, zero-add, add-zero, arith, length-append, lt-ltb, le-ltb, le-leb, leb-true, leb-false, eqb-true}
use Rattle.std.proofs.lemmas.Bool.{lt-leb, eqb-false}
use Rattle.lists.specs.Count.{one, count}
use Rattle.lists.specs.Filter.{keep_if, filtered}

-- ---- one number more, at either end
keep_append : (b : Bool) (i : ℕ) (xs ys : List ℕ) → keep_if b i xs ++ ys ≡ keep_if b i (xs ++ ys)
keep_append true i xs ys = refl
keep_append false i xs ys = refl

those_split : (p : ℕ → Bool) (m n i : ℕ) → filtered p (m + n) i ≡ filtered p m i ++ filtered p n (i + m)
unfolding filtered
those_split p zero n i = rw (zero-add, add-zero)
those_split p (suc m) n i =
    let e : i + 1 + m ≡ i + suc m = omega arith in
    let f : suc m + n ≡ suc (m + n) = omega arith in
    rw f (ap (keep_if (p i) i) (those_split p m n (i + 1) ∙ rw e) ∙ sym (keep_append (p i) i (filtered p m (i + 1)) (filtered p n (i + suc m))))

pub those_last : (p : ℕ → Bool) (n i : ℕ) → filtered p (n + 1) i ≡ filtered p n i ++ keep_if (p (i + n)) (i + n) []
unfolding filtered
those_last p n i = those_split p n 1 i

-- tests that agree
pub those_alike : (p q : ℕ → Bool) (n i : ℕ) → ((x : ℕ) → i ≤ x → x < i + n → p x ≡ q x) → filtered p n i ≡ filtered q n i
unfolding filtered
those_alike p q zero i h = refl
those_alike p q (suc n) i h = rw (h i (omega arith) (omega arith), those_alike p q n (i + 1) (λ x l u. h x (omega arith) (omega arith)))

-- ---- how many
length_keep : (b : Bool) (i : ℕ) (xs : List ℕ) → length (keep_if b i xs) ≡ one b + length xs
length_keep true i xs = omega arith
length_keep false i xs = omega arith

one_few : (b : Bool) → one b ≤ 1
one_few true = omega arith
one_few false = omega arith

pub those_all : (n i : ℕ) → length (filtered (λ x. true) n i) ≡ n
unfolding filtered
those_all zero i = refl
those_all (suc n) i = ap suc (those_all n (i + 1))

pub those_few : (p : ℕ → Bool) (n i : ℕ) → length (filtered p n i) ≤ n
unfolding filtered
those_few p zero i = omega arith
those_few p (suc n) i = omega (arith, length_keep (p i) i (filtered p n (i + 1)), one_few (p i), those_few p n (i + 1))

pub those_prefix : (p : ℕ → Bool) (m n i : ℕ) → m ≤ n → length (filtered p m i) ≤ length (filtered p n i)
those_prefix p m n i h =
    let e : m + (n - m) ≡ n = omega arith in
    omega (arith, ap length (ap (λ (k : ℕ). filtered p k i) (sym e) ∙ those_split p m (n - m) i), length-append (filtered p m i) (filtered p (n - m) (i + m)))

-- tests that keep no number both
pub those_parts : (p q r : ℕ → Bool) → ((x : ℕ) → one (p x) + one (q x) ≡ one (r x)) → (n i : ℕ) → length (filtered p n i) + length (filtered q n i) ≡ length (filtered r n i)
unfolding filtered
those_parts p q r h zero i = refl
those_parts p q r h (suc n) i =
    omega (arith, h i, those_parts p q r h n (i + 1), length_keep (p i) i (filtered p n (i + 1)), length_keep (q i) i (filtered q n (i + 1)), length_keep (r i) i (filtered r n (i + 1)))

-- a test that keeps less
pub those_fewer : (p q : ℕ → Bool) (n i : ℕ) → ((x : ℕ) → i ≤ x → x < i + n → one (q x) ≤ one (p x)) → length (filtered q n i) ≤ length (filtered p n i)
unfolding filtered
those_fewer p q zero i h = omega arith
those_fewer p q (suc n) i h =
    omega (arith, h i (omega arith) (omega arith), those_fewer p q n (i + 1) (λ x l u. h x (omega arith) (omega arith)), length_keep (p i) i (filtered p n (i + 1)), length_keep (q i) i (filtered q n (i + 1)))

pub those_less : (p q : ℕ → Bool) (n i y : ℕ) → ((x : ℕ) → i ≤ x → x < i + n → one (q x) ≤ one (p x)) → i ≤ y → y < i + n → p y ≡ true → q y ≡ false → length (filtered q n i) < length (filtered p n i)
unfolding filtered
those_less p q zero i y h l u e f = absurd (omega arith)
those_less p q (suc n) i y h l u e f = go (eqb i y) refl (λ k. those_less p q n (i + 1) y (λ x m v. h x (omega arith) (omega arith)) k (omega arith) e f)
  where
    go : (b : Bool) → eqb i y ≡ b → (i + 1 ≤ y → length (filtered q n (i + 1)) < length (filtered p n (i + 1))) → length (keep_if (q i) i (filtered q n (i + 1))) < length (keep_if (p i) i (filtered p n (i + 1)))
    go true t r =
        let a : one (p i) ≡ 1 = ap (λ (x : ℕ). one (p x)) (eqb-true i y t) ∙ ap one e in
        let b : one (q i) ≡ 0 = ap (λ (x : ℕ). one (q x)) (eqb-true i y t) ∙ ap one f in
        omega (arith, those_fewer p q n (i + 1) (λ x m v. h x (omega arith) (omega arith)), length_keep (p i) i (filtered p n (i + 1)), length_keep (q i) i (filtered q n (i + 1)))
    go false t r =
        omega (arith, r (omega (arith, eqb-false i y t)), h i (omega arith) (omega arith), length_keep (p i) i (filtered p n (i + 1)), length_keep (q i) i (filtered q n (i + 1)))

-- ---- which
count_keep : (x : ℕ) (b : Bool) (i : ℕ) (xs : List ℕ) → count x (keep_if b i xs) ≡ one (b && eqb x i) + count x xs
unfolding count
count_keep x true i xs = refl
count_keep x false i xs = omega arith

leb_off : (i x : ℕ) → (x ≡ i → ⊥) → leb (i + 1) x ≡ leb i x
leb_off i x h = go (leb i x) refl
  where
    go : (b : Bool) → leb i x ≡ b → leb (i + 1) x ≡ b
    go true e = let l = leb-true i x e in le-leb (i + 1) x (omega (arith, h))
    go false e = let l = leb-false i x e in lt-leb (i + 1) x (omega arith)

-- each number of the run that is kept, once
pub those_count : (p : ℕ → Bool) (n i x : ℕ) → count x (filtered p n i) ≡ one (leb i x && (ltb x (i + n) && p x))
unfolding filtered count
those_count p zero i x = go (leb i x) refl
  where
    go : (b : Bool) → leb i x ≡ b → 0 ≡ one (b && (ltb x (i + 0) && p x))
    go true e = let l = leb-true i x e in rw (le-ltb x (i + 0) (omega arith))
    go false e = refl
those_count p (suc n) i x = count_keep x (p i) i (filtered p n (i + 1)) ∙ rw (those_count p n (i + 1) x) (go (eqb x i) refl)
  where
    go : (b : Bool) → eqb x i ≡ b → one (p i && eqb x i) + one (leb (i + 1) x && (ltb x (i + 1 + n) && p x)) ≡ one (leb i x && (ltb x (i + suc n) && p x))
    go true e =
        let q = eqb-true x i e in
        rw (e, q, lt-leb (i + 1) i (omega arith), le-leb i i (omega arith), lt-ltb i (i + suc n) (omega arith)) (here (p i))
      where
        here : (t : Bool) → one (t && true) + 0 ≡ one t
        here true = refl
        here false = refl
    go false e =
        let m : i + 1 + n ≡ i + suc n = omega arith in
        rw (e, leb_off i x (eqb-false x i e), m, none (p i), zero-add)
      where
        none : (t : Bool) → one (t && false) ≡ 0
        none true = refl
        none false = refl

-- ---- where
pub those_at : (p : ℕ → Bool) (n i k : ℕ) → k < length (filtered p n i) → (i ≤ get_or (filtered p n i) k 0) × (get_or (filtered p n i) k 0 < i + n)
unfolding filtered
those_at p zero i k h = absurd (omega arith)
those_at p (suc n) i k h = go (p i) k h (λ j l. those_at p n (i + 1) j l)
  where
    go : (b : Bool) (k : ℕ) → k < length (keep_if b i (filtered p n (i + 1))) → ((j : ℕ) → j < length (filtered p n (i + 1)) → (i + 1 ≤ get_or (filtered p n (i + 1)) j 0) × (get_or (filtered p n (i + 1)) j 0 < i + 1 + n)) → (i ≤ get_or (keep_if b i (filtered p n (i + 1))) k 0) × (get_or (keep_if b i (filtered p n (i + 1))) k 0 < i + suc n)
    go true zero l r = (omega arith, omega arith)
    go true (suc k) l r = let q = r k (omega arith) in (omega arith, omega arith)
    go false k l r = let q = r k l in (omega arith, omega arith)
