-- What `longest_left` is, where a round is left: one that is left; no round left is longer, and each lower one left is shorter. Assumes nothing.
use Rattle.std.specs.Prelude.{◌≡◌, ◌⊎◌, Bool, not, ◌&&◌, ◌||◌, List, leb, ltb, eqb, get_or}
use Rattle.std.proofs.Math.Path.{refl}
use Rattle.std.proofs.Common.{sym, ap, ◌∙◌, inl, inr, le_of_eq, le_trans, le_antisymm, le_of_suc-le-suc, leb-true, leb-false, ltb-true, ltb-false, eqb-true, eq-eqb}
use Prim.Native.Nat.{ℕ, zero, suc, ◌≤◌, ◌<◌}
use Rattle.std.proofs.Math.Nat.{eq-or-lt_of_le}
use native.Mathlib.Omega.{arith}
use Rattle.std.proofs.Math.Bool.{true, false, cond}
use Rattle.std.proofs.lemmas.Bool.{eqb-false}
use Rattle.sorting.specs.Laws.Stable.{true≢false}
use Rattle.crews.specs.Deal.{goes_before, longest_left}

-- round i is the next to deal, of the first n
pub record Longest (deal ds : List ℕ) (n i : ℕ) : Type 0 where
  pub round : i < n
  pub left : get_or deal i 0 ≡ 0
  pub longest : (k : ℕ) → k < n → get_or deal k 0 ≡ 0 → get_or ds k 0 ≤ get_or ds i 0
  pub first : (k : ℕ) → k < i → get_or deal k 0 ≡ 0 → get_or ds k 0 < get_or ds i 0

module _ (deal ds : List ℕ) where
  abbrev at : ℕ → ℕ
  at n = longest_left deal ds n

  within : (n : ℕ) → at n ≤ n
  unfolding longest_left
  within zero = omega arith
  within (suc n) = go (goes_before deal ds n (at n)) (within n)
    where
      go : (b : Bool) → at n ≤ n → cond b n (at n) ≤ suc n
      go true h = omega arith
      go false h = omega arith

  -- the test that a step makes
  before : (i k : ℕ) → goes_before deal ds i k ≡ true → (get_or deal i 0 ≡ 0) × (get_or deal k 0 ≡ 0 → get_or ds k 0 < get_or ds i 0)
  before i k e = go (eqb (get_or deal i 0) 0) (eqb (get_or deal k 0) 0) refl refl e
    where
      go : (x y : Bool) → eqb (get_or deal i 0) 0 ≡ x → eqb (get_or deal k 0) 0 ≡ y → (x && (not y || ltb (get_or ds k 0) (get_or ds i 0))) ≡ true → (get_or deal i 0 ≡ 0) × (get_or deal k 0 ≡ 0 → get_or ds k 0 < get_or ds i 0)
      go true true p q r = (eqb-true (get_or deal i 0) 0 p, λ z. ltb-true (get_or ds k 0) (get_or ds i 0) r)
      go true false p q r = (eqb-true (get_or deal i 0) 0 p, λ z. absurd (eqb-false (get_or deal k 0) 0 q z))
      go false y p q r = true≢false (sym r)

  not_before : (i k : ℕ) → goes_before deal ds i k ≡ false → get_or deal i 0 ≡ 0 → (get_or deal k 0 ≡ 0) × (get_or ds i 0 ≤ get_or ds k 0)
  not_before i k e l = go (eqb (get_or deal k 0) 0) refl (rw (eq-eqb (get_or deal i 0) 0 l) at e)
    where
      go : (y : Bool) → eqb (get_or deal k 0) 0 ≡ y → (not y || ltb (get_or ds k 0) (get_or ds i 0)) ≡ false → (get_or deal k 0 ≡ 0) × (get_or ds i 0 ≤ get_or ds k 0)
      go true q r = (eqb-true (get_or deal k 0) 0 q, ltb-false (get_or ds k 0) (get_or ds i 0) r)
      go false q r = true≢false r

  pub longest_left_lem : (n k : ℕ) → k < n → get_or deal k 0 ≡ 0 → Longest deal ds n (longest_left deal ds n)
  unfolding longest_left
  longest_left_lem zero k h o = absurd (omega arith)
  longest_left_lem (suc n) k h o = go (goes_before deal ds n (at n)) refl (longest_left_lem n)
    where
      below : (i : ℕ) → i < suc n → (i ≡ n) ⊎ (i < n)
      below i l = eq-or-lt_of_le (le_of_suc-le-suc l)

      go : (b : Bool) → goes_before deal ds n (at n) ≡ b → ((i : ℕ) → i < n → get_or deal i 0 ≡ 0 → Longest deal ds n (at n)) → Longest deal ds (suc n) (cond b n (at n))
      go true e r =
          let t = before n (at n) e in
          let less : (i : ℕ) → i < n → get_or deal i 0 ≡ 0 → get_or ds i 0 < get_or ds n 0 = λ i l p. let s = r i l p in omega (arith, s.longest i l p, t.1 s.left) in
          record {
            round = omega arith;
            left = t.0;
            longest = λ i l p. elim (below i l) [ inl q ↦ le_of_eq (ap (λ (x : ℕ). get_or ds x 0) q) | inr m ↦ let s = less i m p in omega arith ];
            first = less;
          }
      go false e r =
          let up = within n in
          let t : get_or deal n 0 ≡ 0 → (get_or deal (at n) 0 ≡ 0) × (get_or ds n 0 ≤ get_or ds (at n) 0) = not_before n (at n) e in
          record {
            round = omega arith;
            left = elim (below k h) [ inl q ↦ (t (ap (λ (x : ℕ). get_or deal x 0) (sym q) ∙ o)).0 | inr m ↦ (r k m o).left ];
            longest = λ i l p. elim (below i l) [ inl q ↦ le_trans (le_of_eq (ap (λ (x : ℕ). get_or ds x 0) q)) (t (ap (λ (x : ℕ). get_or deal x 0) (sym q) ∙ p)).1 | inr m ↦ (r i m p).longest i m p ];
            first = λ i l p. (r i (omega arith) p).first i l p;
          }

  not_after : (n i k : ℕ) → Longest deal ds n i → Longest deal ds n k → i ≤ k
  not_after n i k a b = go (leb i k) refl
    where
      go : (x : Bool) → leb i k ≡ x → i ≤ k
      go true e = leb-true i k e
      go false e = omega (arith, a.first k (leb-false i k e) b.left, b.longest i a.round a.left)

  -- there is but one
  pub longest_one : (n i k : ℕ) → Longest deal ds n i → Longest deal ds n k → i ≡ k
  longest_one n i k a b = le_antisymm (not_after n i k a b) (not_after n k i b a)
