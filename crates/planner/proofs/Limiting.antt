-- The limiter's answer, and what is promised of its plan out. Assumes nothing.
use mathlib.Core.Path.{◌≡◌, sym, ◌∙◌}
use Prim.Native.Nat.{ℕ, zero, suc, ◌<◌}
use mathlib.Core.Bool.{true}
use mathlib.Core.List.{List}
use lib.ListN.{length, get_or}
use Rattle.sheet.specs.Refusal.{lengths_right}
use Rattle.sheet.specs.Accepted.{Accepted}
use Rattle.plan_door.specs.Door.{plan_taken, door_refusal, unless_refused}
use Rattle.plan_door.specs.Laws.Door.{door_accepted, door_taken}
use Rattle.planner_limiting.specs.Limiting.{limit_refusal, limited_plan, LimitDone}
use Rattle.planner.specs.Answer.{answer_number, bytes_of}
use Rattle.planner.specs.Limited.{limit_told, limit_answer, LimitAnswered, LimitOnce, LimitFew, LimitStood, LimitAside}
use Rattle.planner.specs.Reasoned.{LimitReasoned}
use Rattle.planner.specs.Laws.Reasoned.{reasons_copied}
use Rattle.planner.specs.Laws.LimitPromised.{limited_stands, limited_few, limited_stood, limited_aside}

module _ (s plan lent : List ℕ) (greatest r : ℕ) (out : List ℕ) (done : LimitDone s plan greatest lent r out) where
  pub limit_answered : LimitAnswered s plan greatest lent r out
  unfolding limit_answer
  limit_answered = record { number = number (limit_refusal s plan (length lent)) done.number; bytes = bytes (limit_refusal s plan (length lent)) done.bytes }
    where
      number : (n : ℕ) → r ≡ n → r ≡ answer_number (limit_told n s plan greatest)
      number zero t = t
      number (suc n) t = t

      bytes : (n : ℕ) → out ≡ unless_refused n (limited_plan s plan greatest) lent → out ≡ bytes_of (limit_told n s plan greatest) lent
      bytes zero t = t
      bytes (suc n) t = t

  -- a plan out is of a sheet that is accepted and a plan in that is right
  module _ (none : r ≡ 0) where
    let_in : door_refusal s plan (lengths_right s (length lent)) true ≡ 0
    unfolding limit_refusal
    let_in = sym done.number ∙ none

    fine : Accepted s
    fine = (door_accepted s plan (lengths_right s (length lent)) true let_in).0

    right : plan_taken s plan ≡ true
    right = door_taken s plan (lengths_right s (length lent)) true let_in

    made : out ≡ limited_plan s plan greatest
    made = rw (sym done.number ∙ none) at done.bytes

  pub limit_parts : ((i : ℕ) → get_or s i 0 < 256) → LimitOnce s r out × (LimitFew s greatest r out × (LimitStood s plan r out × (LimitAside s plan r out × LimitReasoned s plan r out)))
  limit_parts small = (
    λ e. rw (made e) (limited_stands s plan greatest (fine e) small (right e)),
    (
      λ e. rw (made e) (limited_few s plan greatest (fine e) small (right e)),
      (
        λ e. rw (made e) (limited_stood s plan greatest (fine e) small (right e)),
        (λ e. rw (made e) (limited_aside s plan greatest (fine e) small (right e)), λ e. rw (made e) (reasons_copied s plan greatest (fine e) small (right e))),
      ),
    ),
  )
