-- The loop over the stops set aside: the plan so far, with those left, is that with all. Assumes nothing.
use mathlib.Core.Path.{◌≡◌, refl, sym, ap, ◌∙◌}
use Prim.Native.Nat.{ℕ, ◌+◌, ◌≤◌, ◌<◌}
use native.Mathlib.Numerals.{add-one}
use mathlib.Core.List.{List}
use lib.ListN.{length, drop, get_or, drop_of_length-le}
use lib.Seq.{drop-cons}
use Rattle.wire.specs.Bytes.{write}
use Rattle.sheet.specs.Fields.{rows_of}
use Rattle.plan.specs.Plan.{first_of, row_record_at, aside_bytes, with_aside}

pub record Chaining (s chain before plan : List ℕ) (i : ℕ) : Type 0 where
  pub long : length plan ≡ length before
  pub same : with_aside s (drop i chain) plan ≡ with_aside s chain before

module _ (s chain before : List ℕ) where
  pub begins : Chaining s chain before before 0
  begins = record { long = refl; same = refl }

  module _ (plan : List ℕ) (i : ℕ) (g : Chaining s chain before plan i) where
    step : i < length chain → with_aside s (drop i chain) plan ≡ with_aside s (drop (i + 1) chain) (write plan (row_record_at (rows_of s) (get_or chain i 0)) (aside_bytes (first_of (drop (i + 1) chain))))
    unfolding with_aside
    step h = rw (add-one i, drop-cons chain i 0 h)

    pub goes_on : (next : ℕ) (after : List ℕ) → i < length chain → next ≡ first_of (drop (i + 1) chain) → length after ≡ length plan → after ≡ write plan (row_record_at (rows_of s) (get_or chain i 0)) (aside_bytes next) → Chaining s chain before after (i + 1)
    goes_on next after h n l w = record { long = l ∙ g.long; same = rw (w, n) (sym (step h) ∙ g.same) }

    pub ends : length chain ≤ i → plan ≡ with_aside s chain before
    unfolding with_aside
    ends h = sym (ap (λ (rows : List ℕ). with_aside s rows plan) (drop_of_length-le chain h)) ∙ g.same
