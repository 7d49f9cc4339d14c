-- docs/SCOPE.md#refusals. What every function refuses that takes a sheet and a plan: "Tested in this order". 1 to 3 as for the planner, 4 for a sheet, a plan or a further buffer
-- that is not of its exact length, 5 to 8 as for the planner, 9 where one depot is asked for, and 10 for the plan.
use Rattle.std.specs.Prelude.{◌≡◌, ℕ, zero, suc, ◌≤◌, Bool, not, ◌&&◌, ◌||◌, List, leb, length, Result, Ok, Err}
use Rattle.sheet.specs.Fields.{most_rows}
use Rattle.sheet.specs.Accepted.{Accepted}
use Rattle.sheet.specs.Depots.{depots_of}
use Rattle.sheet.specs.declared.refusal.Refusal.{Refusal}
use Rattle.sheet.specs.Told.{number_of}
use Rattle.sheet.specs.Refusal.{header_right, counts_right, method_right, lengths_right, unless, contents}
use Rattle.plan.specs.Read.{read_plan, plan_right}
use Rattle.plan_reasons.specs.Reasons.{reasons_right}
use Rattle.plan_reader.specs.Reading.{ReadRight}

-- a number, or what follows where it is 0
abbrev pub or_else : ℕ → ℕ → ℕ
or_else zero next = next
or_else (suc n) next = suc n

-- 9: "limiter with several depots"
abbrev pub one_depot : List ℕ → Bool
one_depot s = leb (depots_of s) 1

-- what is told before a plan of m bytes is read; `room` says whether the further buffer has its length, `one` whether one depot is asked for
unfoldable pub unread_refusal : List ℕ → ℕ → Bool → Bool → ℕ
unread_refusal s m room one =
    unless (header_right s) 1
    (unless (counts_right s) 2
    (unless (method_right s) 3
    (unless (lengths_right s m && room) 4
    (or_else (contents s)
    (unless (not one || one_depot s) 9 0)))))

-- 10: "limiter's plan: over `rows` rounds, unknown id, a link to no stop, or a stop not exactly once in all chains"; and request Six of the reasons of earlier stops: "one of theirs above 8 makes any plan a 10"
unfoldable pub plan_taken : List ℕ → List ℕ → Bool
plan_taken s plan = plan_right s plan && reasons_right s plan (read_plan s plan).aside

unfoldable pub door_refusal : List ℕ → List ℕ → Bool → Bool → ℕ
door_refusal s plan room one = or_else (unread_refusal s (length plan) room one) (unless (plan_taken s plan) 10 0)

-- the bytes of the further buffer after a call that makes `made`: "A refused call writes no lent byte."
abbrev pub unless_refused : ℕ → List ℕ → List ℕ → List ℕ
unless_refused zero made lent = made
unless_refused (suc n) made lent = lent

-- ---- what the door's function asks and answers
-- tables with room for every row of any sheet
pub record DoorTables (stops ends vehicles : List ℕ) : Type 0 where
  pub stopped : most_rows ≤ length stops
  pub ended : most_rows ≤ length ends
  pub driven : most_rows ≤ length vehicles

-- an accepted sheet with a plan that is right, which stands in the tables
pub record LetIn (s plan : List ℕ) (room one : Bool) (stops ends vehicles : List ℕ) (n : ℕ) : Type 0 where
  pub free : door_refusal s plan room one ≡ 0
  pub sheet : Accepted s
  pub read : ReadRight s plan stops ends vehicles n

-- a refusal, or the plan in the tables
abbrev pub EntryAs : List ℕ → List ℕ → Bool → Bool → Result ℕ Refusal → List ℕ → List ℕ → List ℕ → Type 0
EntryAs s plan room one (Err refusal) stops ends vehicles = number_of refusal ≡ door_refusal s plan room one
EntryAs s plan room one (Ok n) stops ends vehicles = LetIn s plan room one stops ends vehicles n
