-- The places for the rest, from the stop at hand on: trying each is what the clock's second label does. Assumes nothing.
use Rattle.std.specs.Prelude.{◌≡◌, ◌⊎◌, Bool, ◌||◌, T, ltb, eqb, length}
use Rattle.std.proofs.Math.Path.{refl, sym, ap}
use Rattle.std.proofs.Common.{◌∙◌, le_of_lt, le_antisymm, inl, inr, ltb-true, ltb-false, ⊎_elim}
use Prim.Native.Nat.{ℕ, zero, suc, ◌≤◌}
use Rattle.std.proofs.Math.Nat.{sub-zero, suc-sub-suc}
use Rattle.std.proofs.Math.Bool.{true, false, cond, or-false, or_assoc}
use mathlib.Core.List.{List, [], ◌∷◌}
use Rattle.std.proofs.Math.Dec.{eqb-suc-suc, eqb-suc-zero}
use Rattle.std.proofs.Math.Facts.{or_yes}
use Rattle.lawful.specs.Lawful.{Walk, failed, left, home_of, stop_n, home_n, walk_n, keeps_maxima, unneeded, some_place}
use Rattle.lawful.specs.ClockN.{ClockN, earlier_n, push_n, onward_n}
use Rattle.lawful.specs.Laws.Order.{NoLater, rest_later, walk_monotone, keeps_monotone}

-- ---- the earlier of two walks
earlier_failed : (w : Walk) → earlier_n w failed ≡ w
unfolding earlier_n
earlier_failed failed = refl
earlier_failed (left a) = refl

-- which it is, told by the order
second : (w u : Walk) → NoLater u w → earlier_n w u ≡ u
unfolding earlier_n
second failed u h = refl
second (left a) failed h = absurd h
second (left a) (left b) h = go (ltb b a) refl
  where
    go : (t : Bool) → ltb b a ≡ t → cond t (left b) (left a) ≡ left b
    go true p = refl
    go false p = ap left (le_antisymm (ltb-false b a p) h)

first : (w u : Walk) → NoLater w u → earlier_n w u ≡ w
unfolding earlier_n
first w failed h = earlier_failed w
first failed (left b) h = absurd h
first (left a) (left b) h = go (ltb b a) refl
  where
    go : (t : Bool) → ltb b a ≡ t → cond t (left b) (left a) ≡ left a
    go true p = ap left (le_antisymm (le_of_lt (ltb-true b a p)) h)
    go false p = refl

total : (w u : Walk) → NoLater w u ⊎ NoLater u w
total w failed = inl tt
total failed (left b) = inr tt
total (left a) (left b) = go (ltb b a) refl
  where
    go : (t : Bool) → ltb b a ≡ t → (a ≤ b) ⊎ (b ≤ a)
    go true p = inr (le_of_lt (ltb-true b a p))
    go false p = inl (ltb-false b a p)

-- ---- an answer that the other one implies
gives_way : (p q : Bool) → (T q → T p) → p ≡ (p || q)
gives_way true q f = refl
gives_way false true f = absurd (f tt)
gives_way false false f = refl

takes_over : (p q : Bool) → (T p → T q) → q ≡ (p || q)
takes_over true true f = refl
takes_over true false f = absurd (f tt)
takes_over false q f = refl

module _ (s : List ℕ) (v : ℕ) (round : List ℕ) where
  abbrev keeps : Walk → Bool
  keeps w = keeps_maxima s v round w

  -- the walk from `w` with no rest to come keeps the maxima
  abbrev walks : Walk → ℕ → List ℕ → Bool
  walks w prev is = keeps (walk_n s v 0 w prev is)

  walks_monotone : (w u : Walk) (prev : ℕ) (is : List ℕ) → NoLater w u → T (walks u prev is) → T (walks w prev is)
  walks_monotone w u prev is h = keeps_monotone s v round (walk_n s v 0 w prev is) (walk_n s v 0 u prev is) (walk_monotone s v w u prev is h)

  walks_earlier : (w u : Walk) (prev : ℕ) (is : List ℕ) → walks (earlier_n w u) prev is ≡ (walks w prev is || walks u prev is)
  walks_earlier w u prev is = go (total w u)
    where
      go : NoLater w u ⊎ NoLater u w → walks (earlier_n w u) prev is ≡ (walks w prev is || walks u prev is)
      go (inl h) = ap (λ (x : Walk). walks x prev is) (first w u h) ∙ gives_way (walks w prev is) (walks u prev is) (walks_monotone w u prev is h)
      go (inr h) = ap (λ (x : Walk). walks x prev is) (second w u h) ∙ takes_over (walks w prev is) (walks u prev is) (walks_monotone u w prev is h)

  -- the rest stands before one of the stops left, from the unrested walk `w` at row `prev` on
  unfoldable pub any_place : Walk → ℕ → List ℕ → Bool
  any_place w prev [] = false
  any_place w prev (i ∷ is) = walks (stop_n true s v prev i w) i is || any_place (stop_n false s v prev i w) i is

  -- a rest only delays: where a rested walk keeps the maxima, so does the unrested one
  pub unrested_keeps : (w : Walk) (prev : ℕ) (is : List ℕ) → T (any_place w prev is) → T (walks w prev is)
  unfolding any_place walk_n
  unrested_keeps w prev [] t = absurd t
  unrested_keeps w prev (i ∷ is) t =
      let a = stop_n false s v prev i w in
      let b = stop_n true s v prev i w in
      ⊎_elim (walks_monotone a b i is (rest_later s v prev i w)) (unrested_keeps a i is) (or_yes (walks b i is) (any_place a i is) t)

  -- ---- the places counted, as `some_place` tries them
  unfoldable placed : Walk → ℕ → List ℕ → ℕ → Bool
  placed w prev is zero = false
  placed w prev is (suc n) = placed w prev is n || keeps (walk_n s v (suc n) w prev is)

  some_placed : (n : ℕ) → some_place s v round n ≡ placed (left 0) (home_of s v) round n
  unfolding some_place placed
  some_placed zero = refl
  some_placed (suc n) = ap (λ (b : Bool). b || keeps (walk_n s v (suc n) (left 0) (home_of s v) round)) (some_placed n)

  -- a place after the stop at hand is one less from the next stop on
  pub walk_past : (n : ℕ) (w : Walk) (prev i : ℕ) (is : List ℕ) → walk_n s v (suc (suc n)) w prev (i ∷ is) ≡ walk_n s v (suc n) (stop_n false s v prev i w) i is
  unfolding walk_n
  walk_past n w prev i is =
      ap (λ (k : ℕ). walk_n s v k (stop_n (eqb (suc (suc n)) 1) s v prev i w) i is) (suc-sub-suc (suc n) 0 ∙ sub-zero (suc n))
      ∙ ap (λ (b : Bool). walk_n s v (suc n) (stop_n b s v prev i w) i is) (eqb-suc-suc (suc n) 0 ∙ eqb-suc-zero n)

  placed_next : (w : Walk) (prev i : ℕ) (is : List ℕ) (n : ℕ)
      → placed w prev (i ∷ is) (suc n) ≡ (walks (stop_n true s v prev i w) i is || placed (stop_n false s v prev i w) i is n)
  unfolding placed walk_n
  placed_next w prev i is zero = sym (or-false (walks (stop_n true s v prev i w) i is))
  placed_next w prev i is (suc n) =
      ap (λ (b : Bool). b || keeps (walk_n s v (suc (suc n)) w prev (i ∷ is))) (placed_next w prev i is n)
      ∙ ap (λ (u : Walk). walks (stop_n true s v prev i w) i is || placed (stop_n false s v prev i w) i is n || keeps u) (walk_past n w prev i is)
      ∙ or_assoc (walks (stop_n true s v prev i w) i is) (placed (stop_n false s v prev i w) i is n) _

  placed_any : (w : Walk) (prev : ℕ) (is : List ℕ) → placed w prev is (length is) ≡ any_place w prev is
  unfolding placed any_place
  placed_any w prev [] = refl
  placed_any w prev (i ∷ is) =
      placed_next w prev i is (length is)
      ∙ ap (λ (b : Bool). walks (stop_n true s v prev i w) i is || b) (placed_any (stop_n false s v prev i w) i is)

  pub some_any : some_place s v round (length round) ≡ any_place (left 0) (home_of s v) round
  some_any = some_placed (length round) ∙ placed_any (left 0) (home_of s v) round

  -- ---- the clock tries them all
  ended : (t : Bool) (b a : Walk) → keeps (cond t b a) ≡ cond t (keeps b) (keeps a || false)
  ended true b a = refl
  ended false b a = sym (or-false (keeps a))

  pub onward_places : (c : ClockN) (prev : ℕ) (is : List ℕ) →
      keeps (onward_n s v c prev is)
      ≡ cond (unneeded s v (walk_n s v 0 c.before prev is)) (walks c.before prev is) (walks c.after prev is || any_place c.before prev is)
  unfolding onward_n push_n any_place walk_n
  onward_places c prev [] = ended (unneeded s v (home_n s v prev c.before)) (home_n s v prev c.before) (home_n s v prev c.after)
  onward_places c prev (i ∷ is) =
      let a = stop_n false s v prev i c.before in
      let b = stop_n true s v prev i c.before in
      let d = stop_n false s v prev i c.after in
      onward_places (push_n s v prev i c) i is
      ∙ ap (λ (t : Bool). cond (unneeded s v (walk_n s v 0 a i is)) (walks a i is) (t || any_place a i is)) (walks_earlier d b i is)
      ∙ ap (λ (t : Bool). cond (unneeded s v (walk_n s v 0 a i is)) (walks a i is) t) (or_assoc (walks d i is) (walks b i is) (any_place a i is))
