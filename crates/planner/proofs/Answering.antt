-- The answer, refused or planned, and that it keeps what is promised. Assumes nothing.
use mathlib.Core.Path.{◌≡◌, refl, sym, ◌∙◌}
use Prim.Native.Nat.{ℕ, zero, suc, ◌<◌}
use mathlib.Core.List.{List}
use lib.ListN.{length, get_or}
use Rattle.sheet.specs.Fields.{plan_length}
use Rattle.sheet.specs.Refusal.{refusal_of}
use Rattle.sheet.specs.Accepted.{Accepted}
use Rattle.sheet.specs.Laws.Accepted.{accepted}
use Rattle.planner.specs.Answer.{plan_for, answer_of, Answered, Once, Feasibly, Lawful, Alone, Closed}
use Rattle.planner.specs.Laws.Promised.{stands, feasible_rounds, lawful_rounds}
use Rattle.planner.specs.Reasoned.{Reasoned}
use Rattle.planner.specs.Laws.Insertion.{alone_kept, closed_kept}
use Rattle.planner.specs.Laws.Reasoned.{reasons_given}

module _ (s lent : List ℕ) (n : ℕ) (told : n ≡ refusal_of s (length lent)) where
  -- a refused sheet: nothing is promised of it
  module _ (refused : n ≡ 0 → ⊥) where
    pub refused_answer : Answered s lent n lent
    unfolding answer_of
    refused_answer = go (refusal_of s (length lent)) refl
      where
        go : (m : ℕ) → refusal_of s (length lent) ≡ m → Answered s lent n lent
        go zero e = absurd (refused (told ∙ e))
        go (suc m) e = record { number = rw e (told ∙ e); bytes = rw e }

    pub refused_parts : Once s n lent × (Feasibly s n lent × (Lawful s n lent × (Alone s n lent × (Closed s n lent × Reasoned s n lent))))
    refused_parts = (λ e. absurd (refused e), (λ e. absurd (refused e), (λ e. absurd (refused e), (λ e. absurd (refused e), (λ e. absurd (refused e), λ e. absurd (refused e))))))

  -- a sheet that is accepted
  module _ (none : n ≡ 0) where
    pub asks : Accepted s × (length lent ≡ plan_length s)
    asks = accepted s (length lent) (sym told ∙ none)

    fine : Accepted s
    fine = asks.0

    module _ (plan : List ℕ) (filled : plan ≡ plan_for s) where
      pub planned_answer : Answered s lent 0 plan
      unfolding answer_of
      planned_answer = let e : refusal_of s (length lent) ≡ 0 = sym told ∙ none in record { number = rw e; bytes = rw e filled }

      pub planned_parts : ((i : ℕ) → get_or s i 0 < 256) → Once s 0 plan × (Feasibly s 0 plan × (Lawful s 0 plan × (Alone s 0 plan × (Closed s 0 plan × Reasoned s 0 plan))))
      planned_parts small = (
        λ e. rw filled (stands s fine small),
        (
          λ e. rw filled (feasible_rounds s fine small),
          (
            λ e whole other. rw filled (lawful_rounds s fine small whole other),
            (
              λ e whole method one. rw filled (alone_kept s fine small whole method one),
              (λ e whole method one. rw filled (closed_kept s fine small whole method one), λ e. rw filled (reasons_given s fine small)),
            ),
          ),
        ),
      )
