-- What a deal gives a crew: a round dealt adds its duration to its crew's total and to no other's; and the shortest round of a crew. Assumes nothing.
use Rattle.std.specs.Prelude.{◌≡◌, refl, ℕ, zero, suc, ◌+◌, ◌*◌, ◌≤◌, ◌<◌, min, max, Bool, true, false, ◌||◌, cond, List, [], ◌∷◌, eqb, length, get_or, set, replicate}
use Rattle.std.proofs.Common.{sym, ap, not-suc-le-zero, le_of_suc-le-suc, suc-mul, arith, eq-eqb, ne_eqb, eqb-true}
use Rattle.sorting.specs.Laws.Stable.{true≢false}
use Rattle.crews.specs.Deal.{total_of, has_round, shortest_of}
use Rattle.crews.specs.Fair.{longest}

-- ---- one round more
pub total_own : (deal ds : List ℕ) (i c : ℕ) → i < length deal → i < length ds → (get_or deal i 0 ≡ c → ⊥) → total_of (set deal i c) ds c ≡ total_of deal ds c + get_or ds i 0
unfolding total_of
total_own [] ds i c h k ne = absurd (not-suc-le-zero h)
total_own (a ∷ deal) [] i c h k ne = absurd (not-suc-le-zero k)
total_own (a ∷ deal) (d ∷ ds) zero c h k ne = rw (eq-eqb c c refl, ne_eqb a c ne) (omega arith)
total_own (a ∷ deal) (d ∷ ds) (suc i) c h k ne = let e = total_own deal ds i c (le_of_suc-le-suc h) (le_of_suc-le-suc k) ne in omega arith

pub total_other : (deal ds : List ℕ) (i c b : ℕ) → (get_or deal i 0 ≡ b → ⊥) → (c ≡ b → ⊥) → total_of (set deal i c) ds b ≡ total_of deal ds b
unfolding total_of
total_other [] ds i c b ne other = refl
total_other (a ∷ deal) [] zero c b ne other = refl
total_other (a ∷ deal) [] (suc i) c b ne other = refl
total_other (a ∷ deal) (d ∷ ds) zero c b ne other = rw (ne_eqb c b other, ne_eqb a b ne)
total_other (a ∷ deal) (d ∷ ds) (suc i) c b ne other = ap (λ (n : ℕ). cond (eqb a b) d 0 + n) (total_other deal ds i c b ne other)

-- ---- how much it can be
pub total_none : (n c : ℕ) (ds : List ℕ) → 1 ≤ c → total_of (replicate n 0) ds c ≡ 0
unfolding total_of
total_none zero c ds h = refl
total_none (suc n) c [] h = refl
total_none (suc n) c (d ∷ ds) h = rw (ne_eqb 0 c (λ e. omega arith)) (omega (arith, total_none n c ds h))

pub total_bounded : (deal ds : List ℕ) (c most : ℕ) → ((k : ℕ) → k < length ds → get_or ds k 0 ≤ most) → total_of deal ds c ≤ length ds * most
unfolding total_of
total_bounded [] ds c most h = omega arith
total_bounded (a ∷ deal) [] c most h = omega arith
total_bounded (a ∷ deal) (d ∷ ds) c most h = go (eqb a c) (h 0 (omega arith)) (total_bounded deal ds c most (λ k l. h (suc k) (omega arith)))
  where
    go : (x : Bool) → d ≤ most → total_of deal ds c ≤ length ds * most → cond x d 0 + total_of deal ds c ≤ suc (length ds) * most
    go true m l = rw (suc-mul (length ds) most) (omega arith)
    go false m l = rw (suc-mul (length ds) most) (omega arith)

-- ---- the shortest round of a crew
none_total : (deal ds : List ℕ) (c : ℕ) → has_round deal ds c ≡ false → total_of deal ds c ≡ 0
unfolding total_of has_round
none_total [] ds c e = refl
none_total (a ∷ deal) [] c e = refl
none_total (a ∷ deal) (d ∷ ds) c e = go (eqb a c) (none_total deal ds c) e
  where
    go : (x : Bool) → (has_round deal ds c ≡ false → total_of deal ds c ≡ 0) → (x || has_round deal ds c) ≡ false → cond x d 0 + total_of deal ds c ≡ 0
    go true r p = true≢false p
    go false r p = omega (arith, r p)

some_shortest : (deal ds : List ℕ) (c t u : ℕ) → has_round deal ds c ≡ true → ((i : ℕ) → i < length deal → i < length ds → get_or deal i 0 ≡ c → t ≤ u + get_or ds i 0) → t ≤ u + shortest_of deal ds c
unfolding shortest_of has_round
some_shortest [] ds c t u e h = true≢false (sym e)
some_shortest (a ∷ deal) [] c t u e h = true≢false (sym e)
some_shortest (a ∷ deal) (d ∷ ds) c t u e h =
    go (eqb a c) (has_round deal ds c) refl (λ r. some_shortest deal ds c t u r (λ i p q s. h (suc i) (omega arith) (omega arith) s)) e
  where
    go : (x y : Bool) → eqb a c ≡ x → (y ≡ true → t ≤ u + shortest_of deal ds c) → (x || y) ≡ true → t ≤ u + cond x (cond y (min d (shortest_of deal ds c)) d) (shortest_of deal ds c)
    go true true p r q = let l = h 0 (omega arith) (omega arith) (eqb-true a c p) in let m = r refl in omega arith
    go true false p r q = h 0 (omega arith) (omega arith) (eqb-true a c p)
    go false y p r q = r q

-- what holds by each round of a crew holds by its shortest; a crew without one has no total
pub by_shortest : (deal ds : List ℕ) (c u : ℕ) → ((i : ℕ) → i < length deal → i < length ds → get_or deal i 0 ≡ c → total_of deal ds c ≤ u + get_or ds i 0) → total_of deal ds c ≤ u + shortest_of deal ds c
by_shortest deal ds c u h = go (has_round deal ds c) refl
  where
    go : (x : Bool) → has_round deal ds c ≡ x → total_of deal ds c ≤ u + shortest_of deal ds c
    go true e = some_shortest deal ds c (total_of deal ds c) u e h
    go false e = omega (arith, none_total deal ds c e)

pub shortest_longest : (deal ds : List ℕ) (c : ℕ) → shortest_of deal ds c ≤ longest ds
unfolding shortest_of longest
shortest_longest [] ds c = omega arith
shortest_longest (a ∷ deal) [] c = omega arith
shortest_longest (a ∷ deal) (d ∷ ds) c = go (eqb a c) (has_round deal ds c) (shortest_longest deal ds c)
  where
    go : (x y : Bool) → shortest_of deal ds c ≤ longest ds → cond x (cond y (min d (shortest_of deal ds c)) d) (shortest_of deal ds c) ≤ max d (longest ds)
    go true true h = omega arith
    go true false h = omega arith
    go false y h = omega arith
