-- An even deal is bounded, however it was made: no total exceeds another by more than the longest round. So the deal is. Assumes nothing.
use Rattle.std.specs.Prelude.{◌≡◌, refl, Bool, true, false, List, leb}
use Rattle.std.proofs.Common.{sym, ◌∙◌, le_of_lt, zero-mul, le_of_suc-le-suc, eq-or-lt_of_le, leb-true, leb-false}
use Rattle.std.proofs.Math.Path.{ap}
use Rattle.std.proofs.Math.Logic.{inl, inr}
use Prim.Native.Nat.{ℕ, zero, suc, ◌+◌, ◌-◌, ◌*◌, ◌≤◌, max}
use Rattle.std.proofs.Math.Nat.{mul-suc, max-eq_left, max-eq_right}
use native.Mathlib.Omega.{arith}
use Rattle.crews.specs.Deal.{total_of, dealt}
use Rattle.crews.specs.Fair.{longest, crews_sum, largest, Even, LargestBounded}
use Rattle.crews.specs.Laws.Totals.{shortest_longest}
use Rattle.crews.specs.Laws.Even.{dealt_even}

-- ---- x is at most l above each of w totals, and is one of them
module _ (t : ℕ → ℕ) (x l : ℕ) where
  abbrev Near : ℕ → Type 0
  Near w = (b : ℕ) → 1 ≤ b → b ≤ w → x ≤ t b + l

  pub near_all : (w : ℕ) → Near w → x * w ≤ crews_sum t w + l * w
  unfolding crews_sum
  near_all zero h = omega arith
  near_all (suc w) h =
      let a = near_all w (λ b m n. h b m (omega arith)) in
      let e = h (suc w) (omega arith) (omega arith) in
      rw (mul-suc x w, mul-suc l w) (omega arith)

  one_less : (w : ℕ) → 1 ≤ w → l * (w - 1) + l ≡ l * w
  one_less zero h = absurd (omega arith)
  one_less (suc w) h = sym (mul-suc l w ∙ ap (λ (i : ℕ). l * i + l) (let q : w ≡ suc w - 1 = omega arith in q))

  near_own : (w c : ℕ) → 1 ≤ c → c ≤ w → x ≡ t c → Near w → x * w ≤ crews_sum t w + l * (w - 1)
  unfolding crews_sum
  near_own zero c m n e h = absurd (omega arith)
  near_own (suc w) c m n e h =
      let less : Near w = λ b m n. h b m (omega arith) in
      rw (mul-suc x w, let q : suc w - 1 ≡ w = omega arith in q)
      (elim (eq-or-lt_of_le n) [
        | inl q ↦ let a = near_all w less in let p : x ≡ t (suc w) = e ∙ ap t q in omega arith
        | inr k ↦ let a = near_own w c m (le_of_suc-le-suc k) e less in let y = h (suc w) (omega arith) (omega arith) in let z = one_less w (omega arith) in omega arith
      ])

-- what holds of each total times k holds of the largest
pub largest_each : (t : ℕ → ℕ) (k m w : ℕ) → ((c : ℕ) → 1 ≤ c → c ≤ w → t c * k ≤ m) → largest t w * k ≤ m
unfolding largest
largest_each t k m zero h = omega (arith, zero-mul k)
largest_each t k m (suc w) h = go (leb (largest t w) (t (suc w))) refl (largest_each t k m w (λ c l n. h c l (omega arith)))
  where
    go : (x : Bool) → leb (largest t w) (t (suc w)) ≡ x → largest t w * k ≤ m → max (largest t w) (t (suc w)) * k ≤ m
    go true e r = rw (max-eq_right (leb-true (largest t w) (t (suc w)) e)) (h (suc w) (omega arith) (omega arith))
    go false e r = rw (max-eq_left (le_of_lt (leb-false (largest t w) (t (suc w)) e))) r

pub even_bounded : (w : ℕ) (ds deal : List ℕ) → Even w ds deal → LargestBounded w ds deal
even_bounded w ds deal even =
    largest_each (total_of deal ds) w _ w
    (λ c m n. near_own (total_of deal ds) (total_of deal ds c) (longest ds) w c m n refl
    (λ b k l. let x = even c b m n k l in let y = shortest_longest deal ds c in omega arith))

pub dealt_bounded : (w : ℕ) (ds : List ℕ) → 1 ≤ w → LargestBounded w ds (dealt w ds)
dealt_bounded w ds some = even_bounded w ds (dealt w ds) (dealt_even w ds some)
