-- The loop over the stops set aside: the plan so far, with the reasons of those left, is that with all. Assumes nothing.
use mathlib.Core.Path.{◌≡◌, refl, sym, ap, ◌∙◌}
use Prim.Native.Nat.{ℕ, ◌+◌, ◌≤◌, ◌<◌}
use native.Mathlib.Numerals.{add-one}
use mathlib.Core.List.{List}
use lib.ListN.{length, drop, get_or, drop_of_length-le}
use lib.Seq.{drop-cons}
use Rattle.wire.specs.Bytes.{bytes, write}
use Rattle.sheet.specs.Fields.{rows_of}
use Rattle.plan_reasons.specs.Reasons.{reason_place, with_reasons}

pub record Giving (s : List ℕ) (why : ℕ → ℕ) (aside before plan : List ℕ) (i : ℕ) : Type 0 where
  pub long : length plan ≡ length before
  pub same : with_reasons s why (drop i aside) plan ≡ with_reasons s why aside before

module _ (s : List ℕ) (why : ℕ → ℕ) (aside before : List ℕ) where
  pub begins : Giving s why aside before before 0
  begins = record { long = refl; same = refl }

  module _ (plan : List ℕ) (i : ℕ) (g : Giving s why aside before plan i) where
    step : i < length aside → with_reasons s why (drop i aside) plan ≡ with_reasons s why (drop (i + 1) aside) (write plan (reason_place (rows_of s) (get_or aside i 0)) (bytes 2 (why (get_or aside i 0))))
    unfolding with_reasons
    step h = rw (add-one i, drop-cons aside i 0 h)

    pub goes_on : (reason : ℕ) (after : List ℕ) → i < length aside → reason ≡ why (get_or aside i 0) → length after ≡ length plan → after ≡ write plan (reason_place (rows_of s) (get_or aside i 0)) (bytes 2 reason) → Giving s why aside before after (i + 1)
    goes_on reason after h r l w = record { long = l ∙ g.long; same = rw (w, r) (sym (step h) ∙ g.same) }

    pub ends : length aside ≤ i → plan ≡ with_reasons s why aside before
    unfolding with_reasons
    ends h = sym (ap (λ (rows : List ℕ). with_reasons s why rows plan) (drop_of_length-le aside h)) ∙ g.same
