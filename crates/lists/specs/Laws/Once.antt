-- Rows that are stops, and none twice: so at most as many as there are rows. Assumes nothing.
use Rattle.std.specs.Prelude.{◌≡◌, refl, ℕ, zero, suc, ◌+◌, ◌≤◌, Bool, true, false, List, [], ◌∷◌, ◌++◌, eqb, length}
use Rattle.std.proofs.Common.{ap, ◌∙◌, arith, eqb-true}
use Rattle.std.proofs.lemmas.Bool.{eqb-false}
use Rattle.lists.specs.Count.{one, count}
use Rattle.lists.specs.Once.{Stops}

-- no row twice
abbrev pub Distinct : List ℕ → Type 0
Distinct [] = Unit
Distinct (row ∷ rows) = (count row rows ≡ 0) × Distinct rows

-- no row of the one in the other
unfoldable pub AllOff : List ℕ → List ℕ → Type 0
AllOff [] ys = Unit
AllOff (x ∷ xs) ys = (count x ys ≡ 0) × AllOff xs ys

-- ---- lists of two parts
pub count_append : (x : ℕ) (xs ys : List ℕ) → count x (xs ++ ys) ≡ count x xs + count x ys
unfolding count
count_append x [] ys = omega arith
count_append x (y ∷ xs) ys = let e = count_append x xs ys in omega arith

pub split : (xs ys : List ℕ) → Distinct (xs ++ ys) → Distinct xs × (Distinct ys × AllOff xs ys)
unfolding AllOff
split [] ys d = (tt, (d, tt))
split (x ∷ xs) ys d =
    let r = split xs ys d.1 in
    let e = count_append x xs ys in
    let z = d.0 in
    ((omega arith, r.0), (r.1.0, (omega arith, r.1.1)))

pub stops_split : (n : ℕ) (xs ys : List ℕ) → Stops n (xs ++ ys) → Stops n xs × Stops n ys
stops_split n [] ys o = (tt, o)
stops_split n (x ∷ xs) ys o = let r = stops_split n xs ys o.1 in ((o.0, r.0), r.1)

-- ---- one row taken out
abbrev keep : Bool → ℕ → List ℕ → List ℕ
keep true y ys = ys
keep false y ys = y ∷ ys

without : ℕ → List ℕ → List ℕ
without x [] = []
without x (y ∷ ys) = keep (eqb x y) y (without x ys)

without_length : (x : ℕ) (ys : List ℕ) → length (without x ys) + count x ys ≡ length ys
unfolding without count
without_length x [] = refl
without_length x (y ∷ ys) = go (eqb x y) (without_length x ys)
  where
    go : (b : Bool) → length (without x ys) + count x ys ≡ length ys → length (keep b y (without x ys)) + (one b + count x ys) ≡ suc (length ys)
    go true e = omega arith
    go false e = omega arith

without_count : (z x : ℕ) (ys : List ℕ) → count z (without x ys) ≤ count z ys
unfolding without count
without_count z x [] = omega arith
without_count z x (y ∷ ys) = go (eqb x y) (without_count z x ys)
  where
    go : (b : Bool) → count z (without x ys) ≤ count z ys → count z (keep b y (without x ys)) ≤ one (eqb z y) + count z ys
    go true l = omega arith
    go false l = omega arith

without_distinct : (x : ℕ) (ys : List ℕ) → Distinct ys → Distinct (without x ys)
unfolding without
without_distinct x [] d = tt
without_distinct x (y ∷ ys) d = go (eqb x y) (without_distinct x ys d.1)
  where
    go : (b : Bool) → Distinct (without x ys) → Distinct (keep b y (without x ys))
    go true e = e
    go false e = (let l = without_count y x ys in let z = d.0 in omega arith, e)

without_stops : (n : ℕ) (ys : List ℕ) → Stops (suc n) ys → Stops n (without n ys)
unfolding without
without_stops n [] o = tt
without_stops n (y ∷ ys) o = go (eqb n y) refl (without_stops n ys o.1)
  where
    go : (b : Bool) → eqb n y ≡ b → Stops n (without n ys) → Stops n (keep b y (without n ys))
    go true e r = r
    go false e r = let l = o.0.1 in ((o.0.0, omega (arith, eqb-false n y e)), r)

count_one : (x : ℕ) (ys : List ℕ) → Distinct ys → count x ys ≤ 1
unfolding count
count_one x [] d = omega arith
count_one x (y ∷ ys) d = go (eqb x y) refl (count_one x ys d.1)
  where
    go : (b : Bool) → eqb x y ≡ b → count x ys ≤ 1 → one b + count x ys ≤ 1
    go true e l = let z : count x ys ≡ 0 = ap (λ (w : ℕ). count w ys) (eqb-true x y e) ∙ d.0 in omega arith
    go false e l = omega arith

pub distinct_few : (n : ℕ) (ys : List ℕ) → Stops n ys → Distinct ys → length ys ≤ n
distinct_few zero [] o d = omega arith
distinct_few zero (y ∷ ys) o d = absurd (let l = o.0.1 in omega arith)
distinct_few (suc n) ys o d =
    let l = distinct_few n (without n ys) (without_stops n ys o) (without_distinct n ys d) in
    let e = without_length n ys in
    let c = count_one n ys d in
    omega arith
