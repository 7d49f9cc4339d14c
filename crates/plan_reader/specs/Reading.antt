-- What the reader tells of a plan, and what it leaves in the tables. Document 01, "The limiter": "Of the plan in it reads round count, ids and chains."
use Rattle.std.specs.Prelude.{◌≡◌, ℕ, ◌-◌, ◌≤◌, true, false, List, length, Option, Some, None}
use Rattle.sheet.specs.Fields.{rows_of, plan_length}
use Rattle.sheet.specs.Depots.{depots_of}
use Rattle.sheet.specs.Accepted.{Accepted}
use Rattle.constructive.specs.Outcome.{outcome_in}
use Rattle.constructive.specs.Tables.{Tables}
use Rattle.plan.specs.Read.{rounds_at, read_plan, plan_right}

-- how many stops a sheet has: its rows less its depots
abbrev pub stop_count : List ℕ → ℕ
stop_count s = rows_of s - depots_of s

-- an accepted sheet, a plan of its length, and tables with room for every row (a clause: of the sheet, the plan and the tables)
pub record ReaderTables (s plan stops ends vehicles : List ℕ) : Type 0 where
  pub sheet : Accepted s
  pub planned : length plan ≡ plan_length s
  pub rows : rows_of s ≤ length stops
  pub ended : rows_of s ≤ length ends
  pub fleet : rows_of s ≤ length vehicles

-- the plan's outcome stands in the tables, n rounds and every stop
pub record ReadRight (s plan stops ends vehicles : List ℕ) (n : ℕ) : Type 0 where
  pub right : plan_right s plan ≡ true
  pub rounds : n ≡ rounds_at plan
  pub outcome : outcome_in stops ends vehicles n (stop_count s) ≡ read_plan s plan
  pub tables : Tables s stops ends vehicles n (stop_count s)

-- the answer: the outcome of a plan that is right, or refusal 10
abbrev pub ReadAs : List ℕ → List ℕ → Option ℕ → List ℕ → List ℕ → List ℕ → Type 0
ReadAs s plan (Some n) stops ends vehicles = ReadRight s plan stops ends vehicles n
ReadAs s plan None stops ends vehicles = plan_right s plan ≡ false
