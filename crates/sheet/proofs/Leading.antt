-- The leading marked rows, by the first that is not marked. Assumes nothing.
use Rattle.std.proofs.Common.{◌≡◌, refl, sym, ap, ℕ, ◌+◌, ◌≤◌, ◌<◌, true, false, List, Option, None, Some, MatchOption, unwrap_or, max, add-zero, zero-add, arith}
use Prim.Native.Nat.{zero, suc}
use Rattle.sheet.specs.Depots.{is_depot, leading, at_least_one}

-- i rows from row j on are marked, and the next is not, if there is one
leading_from : (s : List ℕ) (n j i : ℕ) → i ≤ n → ((k : ℕ) → j ≤ k → k < j + i → is_depot s k ≡ true) → (i < n → is_depot s (j + i) ≡ false) → leading s n j ≡ i
unfolding leading
leading_from s zero j i h marked next = omega arith
leading_from s (suc n) j zero h marked next = let e : is_depot s j ≡ false = rw add-zero at (next (omega arith)) in rw e
leading_from s (suc n) j (suc i) h marked next =
    let e : j + suc i ≡ j + 1 + i = omega arith in
    rw (marked j (omega arith) (omega arith)) (ap suc (leading_from s n (j + 1) i (omega arith) (λ k a b. marked k (omega arith) (omega arith)) (λ l. rw e at (next (omega arith)))))

pub first_unmarked : (s : List ℕ) (n : ℕ) (r : Option ℕ) → MatchOption r ((k : ℕ) → 0 ≤ k → k < n → is_depot s k ≡ true) (λ i. (0 ≤ i) × (i < n) × (is_depot s i ≡ false) × ((k : ℕ) → 0 ≤ k → k < i → is_depot s k ≡ true)) → unwrap_or r n ≡ leading s n 0
first_unmarked s n None all = sym (leading_from s n 0 n (omega arith) (λ k a b. all k a (omega arith)) (λ l. absurd (omega arith)))
first_unmarked s n (Some i) (a, b, next, marked) = sym (leading_from s n 0 i (omega arith) (λ k a b. marked k a (omega arith)) (λ l. rw zero-add next))

pub at_least_one_max : (n : ℕ) → max n 1 ≡ at_least_one n
at_least_one_max zero = refl
at_least_one_max (suc n) = omega arith
