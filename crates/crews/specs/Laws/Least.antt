-- What `least_crew` is: one of the crews 1 to w; none has a lesser total, and each lower one has a greater. Assumes nothing.
use Rattle.std.specs.Prelude.{◌≡◌, Bool}
use Rattle.std.proofs.Math.Path.{refl, subst}
use Rattle.std.proofs.Common.{sym, ap, le_of_lt, le_of_suc-le-suc, eq-or-lt_of_le, ltb-true, ltb-false}
use Rattle.std.proofs.Math.Logic.{inl, inr}
use Prim.Native.Nat.{ℕ, zero, suc, ◌≤◌, ◌<◌, max}
use Rattle.std.proofs.Math.Nat.{le_of_eq, le_trans, lt_of_lt_of_le}
use native.Mathlib.Omega.{arith}
use Rattle.std.proofs.Math.Bool.{true, false, cond}
use Rattle.std.proofs.Math.Dec.{ltb}
use Rattle.crews.specs.Deal.{least_crew}

module _ (t : ℕ → ℕ) where
  within : (w : ℕ) → (1 ≤ least_crew t w) × (least_crew t w ≤ max w 1)
  unfolding least_crew
  within zero = (omega arith, omega arith)
  within (suc w) = go (ltb (t (suc w)) (t (least_crew t w))) (within w)
    where
      go : (b : Bool) → (1 ≤ least_crew t w) × (least_crew t w ≤ max w 1) → (1 ≤ cond b (suc w) (least_crew t w)) × (cond b (suc w) (least_crew t w) ≤ max (suc w) 1)
      go true h = (omega arith, omega arith)
      go false h = (h.0, omega arith)

  pub least_crew_lem : (w : ℕ) → 1 ≤ w → (1 ≤ least_crew t w) × (least_crew t w ≤ w)
  least_crew_lem w h = let i = within w in (i.0, omega arith)

  pub least_total : (w b : ℕ) → 1 ≤ b → b ≤ w → t (least_crew t w) ≤ t b
  unfolding least_crew
  least_total zero b h l = absurd (omega arith)
  least_total (suc w) b h l = go (ltb (t (suc w)) (t (least_crew t w))) refl (least_total w b h)
    where
      go : (x : Bool) → ltb (t (suc w)) (t (least_crew t w)) ≡ x → (b ≤ w → t (least_crew t w) ≤ t b) → t (cond x (suc w) (least_crew t w)) ≤ t b
      go true e r =
          elim (eq-or-lt_of_le l) [
            | inl q ↦ le_of_eq (ap t (sym q))
            | inr m ↦ le_trans (le_of_lt (ltb-true (t (suc w)) (t (least_crew t w)) e)) (r (le_of_suc-le-suc m))
          ]
      go false e r = elim (eq-or-lt_of_le l) [ inl q ↦ subst (λ (i : ℕ). t (least_crew t w) ≤ t i) (sym q) (ltb-false (t (suc w)) (t (least_crew t w)) e) | inr m ↦ r (le_of_suc-le-suc m) ]

  -- "lower crew first when equal"
  pub least_first : (w b : ℕ) → 1 ≤ b → b < least_crew t w → t (least_crew t w) < t b
  unfolding least_crew
  least_first zero b h l = absurd (omega arith)
  least_first (suc w) b h l = go (ltb (t (suc w)) (t (least_crew t w))) refl (least_first w b h) l
    where
      go : (x : Bool) → ltb (t (suc w)) (t (least_crew t w)) ≡ x → (b < least_crew t w → t (least_crew t w) < t b) → b < cond x (suc w) (least_crew t w) → t (cond x (suc w) (least_crew t w)) < t b
      go true e r m = lt_of_lt_of_le (ltb-true (t (suc w)) (t (least_crew t w)) e) (least_total w b h (le_of_suc-le-suc m))
      go false e r m = r m

-- it turns on the totals of the crews 1 to w alone
pub least_same : (t u : ℕ → ℕ) (w : ℕ) → ((c : ℕ) → 1 ≤ c → c ≤ max w 1 → t c ≡ u c) → least_crew t w ≡ least_crew u w
unfolding least_crew
least_same t u zero h = refl
least_same t u (suc w) h =
    let e = least_same t u w (λ c l m. h c l (omega arith)) in
    let i = within u w in
    rw (e, h (suc w) (omega arith) (omega arith), h (least_crew u w) i.0 (omega arith))
