-- What the functions ask, and what they leave in the tables that are lent.
use Rattle.std.specs.Prelude.{◌≡◌, ℕ, ◌-◌, ◌≤◌, List, length}
use Rattle.sheet.specs.Fields.{rows_of}
use Rattle.sheet.specs.Depots.{depots_of}
use Rattle.sheet.specs.Accepted.{Accepted}
use Rattle.constructive.specs.Outcome.{Outcome, outcome_in}
use Rattle.constructive.specs.Tables.{Tables}
use Rattle.constructive.specs.declared.tables.Filled.{Filled}

-- the tables as a caller lends them, who has a number for each row at least
pub record OutcomeTables (s at marks stops ends vehicles : List ℕ) : Type 0 where
  pub sheet : Accepted s
  pub offered : rows_of s ≤ length at
  pub marked : rows_of s ≤ length marks
  pub stopped : rows_of s ≤ length stops
  pub ended : rows_of s ≤ length ends
  pub driven : rows_of s ≤ length vehicles

-- the sheet's outcome, as the writer takes it
pub record OutcomeStored (s stops ends vehicles : List ℕ) (f : Filled) (o : Outcome) : Type 0 where
  pub tables : Tables s stops ends vehicles f.rounds (rows_of s - depots_of s)
  pub outcome : outcome_in stops ends vehicles f.rounds (rows_of s - depots_of s) ≡ o
