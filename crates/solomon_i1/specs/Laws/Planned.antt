-- What holds of no stops, and is kept by each seed, set aside or with its round, holds of the plan. Assumes nothing.
use Rattle.std.specs.Prelude.{◌≡◌, Bool, true, false, cond, T, eqb, length, get_or}
use Rattle.std.proofs.Math.Path.{refl}
use Rattle.std.proofs.Common.{ap, zero-lt-suc, arith}
use Prim.Native.Nat.{ℕ, zero, suc, ◌+◌, ◌≤◌, ◌<◌}
use mathlib.Core.List.{List, [], ◌∷◌}
use Rattle.std.specs.Float.Ieee.{lt}
use Rattle.lists.specs.Count.{one, count}
use Rattle.lists.specs.Moved.{without}
use Rattle.lists.specs.Laws.Moved.{without_count, without_length, inserted_count}
use Rattle.sheet.specs.Values.{distance_of}
use Rattle.constructive.specs.Outcome.{Outcome, empty_outcome}
use Rattle.constructive.specs.declared.terms.Terms.{Terms}
use Rattle.solomon_i1.specs.Insertion.{Farthest, farther, farthest_from, unseen, seed_of, goes_alone, Growth, growing, round_from, route_in, left_in, lone, closed, step_with, seed_step, left_by, plan_by, plan_on}
use Rattle.solomon_i1.specs.Laws.Grown.{Keeps, grow_on_kept}

-- the seed of the stops left, the others, and its round over them
abbrev pub seed_in : List ℕ → Terms → List ℕ → ℕ
seed_in s t left = get_or left (seed_of s t.depot left) 0

abbrev pub rest_in : List ℕ → Terms → List ℕ → List ℕ
rest_in s t left = without (seed_of s t.depot left) left

abbrev pub round_in : List ℕ → Terms → List ℕ → Growth
round_in s t left = round_from s t (seed_in s t left) (rest_in s t left)

-- ---- a seed is one of the stops left
farthest_place : (s : List ℕ) (depot : ℕ) (f : Farthest) (j : ℕ) (rows : List ℕ) (n : ℕ) → f.place < n → j + length rows ≤ n → (farthest_from s depot f j rows).place < n
unfolding farthest_from
farthest_place s depot f j [] n h l = h
farthest_place s depot f j (row ∷ rows) n h l = farthest_place s depot (farther s depot f j row) (j + 1) rows n (go (lt f.distance (distance_of s depot row))) (omega (arith, l))
  where
    go : (b : Bool) → (cond b (record { place = j; distance = distance_of s depot row }) f).place < n
    go true = omega (arith, l)
    go false = h

pub seed_place : (s : List ℕ) (depot : ℕ) (left : List ℕ) → 0 < length left → seed_of s depot left < length left
seed_place s depot left h = farthest_place s depot unseen 0 left (length left) h (omega arith)

-- ---- its round takes some of the others
abbrev Counted : ℕ → ℕ → List ℕ → List ℕ → Type 0
Counted x n route left = count x route + count x left ≡ n

keeps_counted : (s : List ℕ) (t : Terms) (x n : ℕ) → Keeps s t (Counted x n)
keeps_counted s t x n route left j k h p e =
    let a = inserted_count k (get_or left j 0) route x in
    let b = without_count left j h x in
    omega (arith, a, b, e)

abbrev Fewer : ℕ → List ℕ → List ℕ → Type 0
Fewer n route left = length left ≤ n

keeps_fewer : (s : List ℕ) (t : Terms) (n : ℕ) → Keeps s t (Fewer n)
keeps_fewer s t n route left j k h p e = let a = without_length left j h in omega (arith, a, e)

module _ (s : List ℕ) (t : Terms) (seed : ℕ) (left : List ℕ) where
  pub round_count : (x : ℕ) → count x (route_in (round_from s t seed left)) + count x (left_in (round_from s t seed left)) ≡ one (eqb x seed) + count x left
  unfolding count
  round_count x =
      let n = one (eqb x seed) + count x left in
      grow_on_kept s t (Counted x n) (keeps_counted s t x n) (length left) (growing (seed ∷ []) left) (omega arith)

  pub round_fewer : length (left_in (round_from s t seed left)) ≤ length left
  round_fewer = grow_on_kept s t (Fewer (length left)) (keeps_fewer s t (length left)) (length left) (growing (seed ∷ []) left) (omega arith)

-- ---- so each seed leaves fewer stops
module _ (s : List ℕ) (t : Terms) (left : List ℕ) (h : 0 < length left) where
  with_fewer : (b : Bool) → length (left_by (step_with s t b (seed_in s t left) (rest_in s t left))) < length left
  with_fewer false = let a = without_length left (seed_of s t.depot left) (seed_place s t.depot left h) in omega (arith, a)
  with_fewer true =
      let a = without_length left (seed_of s t.depot left) (seed_place s t.depot left h) in
      let b = round_fewer s t (seed_in s t left) (rest_in s t left) in
      omega (arith, a, b)

  pub step_fewer : length (left_by (seed_step s t left)) < length left
  unfolding seed_step
  step_fewer = with_fewer (goes_alone s t (seed_in s t left))

-- as many seeds as there are stops are enough: more change nothing
pub enough : (s : List ℕ) (t : Terms) (n m : ℕ) (left : List ℕ) → length left ≤ n → length left ≤ m → plan_on s t n left ≡ plan_on s t m left
unfolding plan_on
enough s t zero zero left h l = refl
enough s t zero (suc m) [] h l = refl
enough s t zero (suc m) (row ∷ rows) h l = absurd (omega (arith, h))
enough s t (suc n) zero [] h l = refl
enough s t (suc n) zero (row ∷ rows) h l = absurd (omega (arith, l))
enough s t (suc n) (suc m) [] h l = refl
enough s t (suc n) (suc m) (row ∷ rows) h l =
    let x = seed_step s t (row ∷ rows) in
    let k = step_fewer s t (row ∷ rows) (zero-lt-suc (length rows)) in
    ap (plan_by t.vehicle x) (enough s t n m (left_by x) (omega (arith, k, h)) (omega (arith, k, l)))

-- ---- every seed
pub record Seeds (s : List ℕ) (t : Terms) (Q : List ℕ → Outcome → Type 0) : Type 0 where
  pub none : Q [] empty_outcome
  pub aside : (left : List ℕ) → 0 < length left → goes_alone s t (seed_in s t left) ≡ false → (o : Outcome) → Q (rest_in s t left) o
      → Q left (plan_by t.vehicle (lone (seed_in s t left) (rest_in s t left)) o)
  pub round : (left : List ℕ) → 0 < length left → T (goes_alone s t (seed_in s t left)) → (o : Outcome) → Q (left_in (round_in s t left)) o
      → Q left (plan_by t.vehicle (closed (route_in (round_in s t left)) (left_in (round_in s t left))) o)

module _ (s : List ℕ) (t : Terms) (Q : List ℕ → Outcome → Type 0) (seeds : Seeds s t Q) where
  stepped : (left : List ℕ) → 0 < length left → (b : Bool) → goes_alone s t (seed_in s t left) ≡ b → (o : Outcome)
      → let x = step_with s t b (seed_in s t left) (rest_in s t left) in Q (left_by x) o → Q left (plan_by t.vehicle x o)
  stepped left h false e o q = seeds.aside left h e o q
  stepped left h true e o q = seeds.round left h (rw e tt) o q

  pub planned : (n : ℕ) (left : List ℕ) → length left ≤ n → Q left (plan_on s t n left)
  unfolding plan_on seed_step
  planned zero [] l = seeds.none
  planned zero (row ∷ rows) l = absurd (omega (arith, l))
  planned (suc n) [] l = seeds.none
  planned (suc n) (row ∷ rows) l =
      let x = seed_step s t (row ∷ rows) in
      let k = step_fewer s t (row ∷ rows) (zero-lt-suc (length rows)) in
      stepped (row ∷ rows) (zero-lt-suc (length rows)) (goes_alone s t (seed_in s t (row ∷ rows))) refl (plan_on s t n (left_by x)) (planned n (left_by x) (omega (arith, k, l)))
