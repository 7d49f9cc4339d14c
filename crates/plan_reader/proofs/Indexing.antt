-- The vehicle with an id, by the first that has it. Assumes nothing.
use mathlib.Core.Path.{◌≡◌, sym}
use Prim.Native.Nat.{ℕ, zero, suc, ◌+◌, ◌≤◌, ◌<◌}
use native.Mathlib.Omega.{arith}
use native.Mathlib.Nat.{zero-add}
use mathlib.Core.List.{List}
use borrow.Author.Tests.{eq-eqb, ne_eqb}
use Rattle.std.specs.Prelude.{Option, None, Some, MatchOption, unwrap_or}
use Rattle.sheet.specs.Fields.{vehicles_of, vehicle_at, id_field}
use Rattle.sheet.specs.Fleet.{index_from, index_of}

module _ (s : List ℕ) (id : ℕ) where
  abbrev has_id : ℕ → Type 0
  has_id v = id_field s (vehicle_at s v) ≡ id

  -- the first of n vehicles from v on that has the id is the i-th of them, or none has it and i is n
  found_from : (n v i : ℕ) → i ≤ n → ((k : ℕ) → v ≤ k → k < v + i → has_id k → ⊥) → (i < n → has_id (v + i)) → index_from s id n v ≡ v + i
  unfolding index_from
  found_from zero v i h none here = omega arith
  found_from (suc n) v zero h none here =
      let e : v + 0 ≡ v = omega arith in
      rw (e, eq-eqb _ _ (rw e at (here (omega arith))))
  found_from (suc n) v (suc i) h none here =
      let e : v + suc i ≡ v + 1 + i = omega arith in
      rw (e, ne_eqb _ _ (none v (omega arith) (omega arith))) (found_from n (v + 1) i (omega arith) (λ k a b. none k (omega arith) (omega arith)) (λ l. rw e at (here (omega arith))))

  pub first_with : (r : Option ℕ) → MatchOption r ((k : ℕ) → 0 ≤ k → k < vehicles_of s → has_id k → ⊥) (λ i. (0 ≤ i) × (i < vehicles_of s) × has_id i × ((k : ℕ) → 0 ≤ k → k < i → has_id k → ⊥)) → unwrap_or r (vehicles_of s) ≡ index_of s id
  first_with None none = sym (rw zero-add at (found_from (vehicles_of s) 0 (vehicles_of s) (omega arith) (λ k a b. none k a (omega arith)) (λ l. absurd (omega arith))))
  first_with (Some i) (a, b, here, none) = sym (rw zero-add at (found_from (vehicles_of s) 0 i (omega arith) (λ k a b. none k a (omega arith)) (λ l. rw zero-add here)))
