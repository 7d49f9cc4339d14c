-- A plan that `plan_rounds` or `limit_rounds` wrote is never refused for the plan, by any function that takes it with a further buffer of the right length. Assumes nothing.
use Rattle.std.specs.Prelude.{◌≡◌, Bool, ◌&&◌, List, T, get_or}
use Rattle.std.proofs.Math.Path.{refl, sym}
use Rattle.std.proofs.Common.{◌∙◌, true≢false}
use Prim.Native.Nat.{ℕ, zero, suc, ◌<◌}
use Rattle.std.proofs.Math.Bool.{true, false}
use Rattle.std.proofs.Math.Dec.{eqb}
use Rattle.std.proofs.Math.ListN.{length}
use borrow.Author.Tests.{eqb-true}
use Rattle.sheet.specs.Fields.{sheet_length, plan_length}
use Rattle.sheet.specs.Refusal.{lengths_right, refusal_of}
use Rattle.sheet.specs.Laws.Accepted.{accepted, not_refused}
use Rattle.plan_door.specs.Door.{plan_taken, door_refusal}
use Rattle.plan_door.specs.Laws.Door.{open_door, door_fits, door_accepted}
use Rattle.planner_limiting.specs.Limiting.{limit_refusal}
use Rattle.planner.specs.Answer.{answer_number, Answered}
use Rattle.planner.specs.Limited.{limit_told, limit_answer, LimitAnswered, LimitOnce}
use Rattle.planner.specs.Laws.Promised.{number_is, bytes_are, stands}

-- a right plan of its length
right_opened : (s plan : List ℕ) → refusal_of s (length plan) ≡ 0 → T (plan_taken s plan) → door_refusal s plan true false ≡ 0
right_opened s plan free right = open_door s plan false free refl (holds (plan_taken s plan) right)
  where
    holds : (b : Bool) → T b → b ≡ true
    holds true h = refl
    holds false h = absurd h

pub planned_opened : (s lent plan : List ℕ) → ((i : ℕ) → get_or s i 0 < 256) → Answered s lent 0 plan → length plan ≡ length lent → door_refusal s plan true false ≡ 0
planned_opened s lent plan small a same =
    let free : refusal_of s (length lent) ≡ 0 = sym (number_is s (length lent)) ∙ sym a.number in
    right_opened s plan (rw same free) (rw (bytes_are s lent 0 plan a refl) (stands s (accepted s (length lent) free).0 small).right)

module _ (s plan lent out : List ℕ) (greatest : ℕ) (a : LimitAnswered s plan greatest lent 0 out) where
  let_in : door_refusal s plan (lengths_right s (length lent)) true ≡ 0
  unfolding limit_answer limit_refusal
  let_in = go (limit_refusal s plan (length lent)) a.number
    where
      go : (n : ℕ) → 0 ≡ answer_number (limit_told n s plan greatest) → n ≡ 0
      go zero e = refl
      go (suc n) e = sym e

  room : length lent ≡ plan_length s
  unfolding lengths_right
  room = go (eqb (length s) (sheet_length s)) (door_fits s plan (lengths_right s (length lent)) true let_in)
    where
      go : (b : Bool) → b && eqb (length lent) (plan_length s) ≡ true → length lent ≡ plan_length s
      go true e = eqb-true (length lent) (plan_length s) e
      go false e = absurd (true≢false (sym e))

  pub limited_opened : LimitOnce s 0 out → length out ≡ length lent → door_refusal s out true false ≡ 0
  limited_opened once same = right_opened s out (rw (same ∙ room) (not_refused s (door_accepted s plan (lengths_right s (length lent)) true let_in).0)) (once refl).right
