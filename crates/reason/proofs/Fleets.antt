-- The vehicles of a depot: the first of them, and whether one could make the lone round. Assumes nothing.
use Rattle.std.specs.Prelude.{◌≡◌, refl, ℕ, zero, suc, ◌+◌, ◌-◌, ◌≤◌, ◌<◌, Bool, true, false, ◌&&◌, ◌||◌, List, [], ◌∷◌, Option, None, Some, MatchOption, eqb}
use Rattle.std.proofs.Common.{ap, zero-add, arith, eq-eqb, ne_eqb}
use Rattle.std.specs.List.{list_any, range_with_len}
use Rattle.lists.specs.Filter.{keep_if, filtered}
use Rattle.sheet.specs.Fields.{vehicles_of}
use Rattle.sheet.specs.Values.{vehicle_of}
use Rattle.sheet.specs.Fleet.{fleet_of}
use Rattle.reason.specs.Reason.{lone_reason, some_makes}
use Rattle.reason.specs.Told.{fleet_by_first}

module _ (s : List ℕ) (d : ℕ) where
  abbrev pub is_own : ℕ → Bool
  is_own v = eqb (vehicle_of s v).depot d

  abbrev pub Own : ℕ → Type 0
  Own v = (vehicle_of s v).depot ≡ d

  -- ---- the first
  -- of the n vehicles from v on i are another depot's, and they are all or the next is this depot's
  none_from : (n v : ℕ) → ((k : ℕ) → v ≤ k → k < v + n → Own k → ⊥) → filtered is_own n v ≡ []
  unfolding filtered
  none_from zero v none = refl
  none_from (suc n) v none = rw (ne_eqb _ _ (none v (omega arith) (omega arith))) (none_from n (v + 1) (λ k a b. none k (omega arith) (omega arith)))

  found_from : (n v i : ℕ) → i < n → ((k : ℕ) → v ≤ k → k < v + i → Own k → ⊥) → Own (v + i) → filtered is_own n v ≡ (v + i) ∷ filtered is_own (n - (i + 1)) (v + i + 1)
  unfolding filtered
  found_from zero v i h none own = absurd (omega arith)
  found_from (suc n) v zero h none own =
      let e : v + 0 ≡ v = omega arith in
      let m : suc n - (0 + 1) ≡ n = omega arith in
      rw (e, m, eq-eqb _ _ (rw e at own))
  found_from (suc n) v (suc i) h none own =
      let e : v + suc i ≡ v + 1 + i = omega arith in
      let m : suc n - (suc i + 1) ≡ n - (i + 1) = omega arith in
      rw (e, m, ne_eqb _ _ (none v (omega arith) (omega arith))) (found_from n (v + 1) i (omega arith) (λ k a b. none k (omega arith) (omega arith)) (rw e at own))

  pub first_own : (r : Option ℕ) → MatchOption r ((k : ℕ) → 0 ≤ k → k < vehicles_of s → Own k → ⊥) (λ v. (0 ≤ v) × (v < vehicles_of s) × Own v × ((k : ℕ) → 0 ≤ k → k < v → Own k → ⊥)) → fleet_of s d ≡ fleet_by_first s d r
  unfolding fleet_of
  first_own None none = none_from (vehicles_of s) 0 (λ k a b. none k a (omega arith))
  first_own (Some v) (a, b, own, none) = rw zero-add at (found_from (vehicles_of s) 0 v b (λ k l u. none k l (omega arith)) (rw zero-add own))

  -- ---- one that could make the lone round
  module _ (i : ℕ) where
    abbrev pub makes : ℕ → Bool
    makes v = is_own v && eqb (lone_reason s d v i) 7

    pub any_makes : (n v : ℕ) → list_any makes (range_with_len v n) ≡ some_makes s d i (filtered is_own n v)
    unfolding filtered some_makes
    any_makes zero v = refl
    any_makes (suc n) v = go (is_own v) (any_makes n (v + 1))
      where
        go : (b : Bool) → list_any makes (range_with_len (v + 1) n) ≡ some_makes s d i (filtered is_own n (v + 1)) → ((b && eqb (lone_reason s d v i) 7) || list_any makes (range_with_len (v + 1) n)) ≡ some_makes s d i (keep_if b v (filtered is_own n (v + 1)))
        go true e = ap (λ (m : Bool). eqb (lone_reason s d v i) 7 || m) e
        go false e = e
