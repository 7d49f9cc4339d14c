-- Lists with every row as often are equally long. Assumes nothing.
use Rattle.std.specs.Prelude.{◌≡◌, refl, ℕ, zero, suc, ◌+◌, ◌<◌, Bool, true, false, List, [], ◌∷◌, eqb, length, get_or}
use Rattle.std.proofs.Common.{sym, ap, ◌∙◌, subst, arith, eqb-true, eq-eqb}
use Rattle.lists.specs.Count.{one, count}
use Rattle.lists.specs.Every.{Every}

abbrev or_else : Bool → ℕ → List ℕ → List ℕ → List ℕ
or_else true y ys zs = ys
or_else false y ys zs = y ∷ zs

-- a list without its first x
less : ℕ → List ℕ → List ℕ
less x [] = []
less x (y ∷ ys) = or_else (eqb x y) y ys (less x ys)

less_length : (x : ℕ) (ys : List ℕ) → 0 < count x ys → suc (length (less x ys)) ≡ length ys
unfolding less count
less_length x [] h = absurd (omega arith)
less_length x (y ∷ ys) h = go (eqb x y) h (λ k. less_length x ys k)
  where
    go : (b : Bool) → 0 < one b + count x ys → (0 < count x ys → suc (length (less x ys)) ≡ length ys) → suc (length (or_else b y ys (less x ys))) ≡ suc (length ys)
    go true k r = refl
    go false k r = ap suc (r (omega arith))

less_count : (z x : ℕ) (ys : List ℕ) → 0 < count x ys → one (eqb z x) + count z (less x ys) ≡ count z ys
unfolding less count
less_count z x [] h = absurd (omega arith)
less_count z x (y ∷ ys) h = go (eqb x y) refl h (λ k. less_count z x ys k)
  where
    go : (b : Bool) → eqb x y ≡ b → 0 < one b + count x ys → (0 < count x ys → one (eqb z x) + count z (less x ys) ≡ count z ys) → one (eqb z x) + count z (or_else b y ys (less x ys)) ≡ one (eqb z y) + count z ys
    go true e k r = ap (λ (w : ℕ). one (eqb z w) + count z ys) (eqb-true x y e)
    go false e k r = omega (arith, r (omega arith))

pub same_length : (xs ys : List ℕ) → ((x : ℕ) → count x xs ≡ count x ys) → length xs ≡ length ys
unfolding count
same_length [] [] h = refl
same_length [] (y ∷ ys) h = absurd (let k = h y in let e : one (eqb y y) ≡ 1 = rw (eq-eqb y y refl) in omega arith)
same_length (x ∷ xs) ys h =
    let e : one (eqb x x) ≡ 1 = rw (eq-eqb x x refl) in
    let k : 0 < count x ys = omega (arith, h x) in
    ap suc (same_length xs (less x ys) (λ z. omega (arith, h z, less_count z x ys k))) ∙ less_length x ys k

-- what stands in a list is counted
pub count_at : (xs : List ℕ) (i : ℕ) → i < length xs → 0 < count (get_or xs i 0) xs
unfolding count
count_at [] i h = absurd (omega arith)
count_at (x ∷ xs) zero h = let e : one (eqb x x) ≡ 1 = rw (eq-eqb x x refl) in omega arith
count_at (x ∷ xs) (suc i) h = let k = count_at xs i (omega arith) in omega arith

-- and what is counted in it has what every element has
pub every_counted : (P : ℕ → Type 0) (x : ℕ) (xs : List ℕ) → Every P xs → 0 < count x xs → P x
unfolding count
every_counted P x [] e h = absurd (omega (arith, h))
every_counted P x (y ∷ ys) e h = go (eqb x y) refl h (every_counted P x ys e.1)
  where
    go : (b : Bool) → eqb x y ≡ b → 0 < one b + count x ys → (0 < count x ys → P x) → P x
    go true q h f = subst P (sym (eqb-true x y q)) e.0
    go false q h f = f (omega (arith, h))
