-- A test of every number below a bound. Assumes nothing.
use Rattle.std.specs.Prelude.{◌≡◌, refl, ℕ, zero, suc, ◌<◌, Bool, true, false, ◌&&◌, T}
use Rattle.std.proofs.Common.{sym, ap, ◌∙◌, subst, le_of_suc-le-suc, eq-or-lt_of_le, not-suc-le-zero, lt-suc_self, inl, inr}
use Rattle.std.proofs.Math.Nat.{le_step}
use Rattle.std.specs.Float.Ieee.Fits.{and_i, and_l, and_r}
use Rattle.std.proofs.Math.Bool.{and-false}
use Rattle.numbers.specs.All.{all}

pub all_at : (p : ℕ → Bool) (n k : ℕ) → k < n → T (all p n) → T (p k)
unfolding all
all_at p zero k h t = absurd (not-suc-le-zero h)
all_at p (suc n) k h t = elim (eq-or-lt_of_le (le_of_suc-le-suc h)) [
  | inl e ↦ subst (λ (i : ℕ). T (p i)) (sym e) (and_r (all p n) (p n) t)
  | inr l ↦ all_at p n k l (and_l (all p n) (p n) t)
]

pub all_none : (p : ℕ → Bool) → all p 0 ≡ true
unfolding all
all_none p = refl

pub all_more : (p : ℕ → Bool) (n : ℕ) → all p n ≡ true → p n ≡ true → all p (suc n) ≡ true
unfolding all
all_more p n a b = rw (a, b)

pub all_broken : (p : ℕ → Bool) (n k : ℕ) → k < n → p k ≡ false → all p n ≡ false
unfolding all
all_broken p zero k h e = absurd (not-suc-le-zero h)
all_broken p (suc n) k h e = elim (eq-or-lt_of_le (le_of_suc-le-suc h)) [
  | inl i ↦ ap (λ (b : Bool). all p n && b) (ap p (sym i) ∙ e) ∙ and-false (all p n)
  | inr l ↦ ap (λ (b : Bool). b && p n) (all_broken p n k l e)
]

pub all_of : (p : ℕ → Bool) (n : ℕ) → ((k : ℕ) → k < n → T (p k)) → T (all p n)
unfolding all
all_of p zero h = tt
all_of p (suc n) h = and_i (all p n) (p n) (all_of p n (λ k l. h k (le_step l))) (h n (lt-suc_self n))
