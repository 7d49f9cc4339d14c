-- What the limiter asks: the tables of an outcome of every stop, each once, on a sheet with one depot.
use Rattle.std.specs.Prelude.{◌≡◌, ℕ, ◌-◌, List, T}
use Rattle.sheet.specs.Fields.{rows_of}
use Rattle.sheet.specs.Depots.{depots_of}
use Rattle.constructive.specs.Outcome.{outcome_in}
use Rattle.constructive.specs.Right.{outcome_right}
use Rattle.constructive.specs.Tables.{Tables}

-- what the limiter asks of an outcome's tables (a clause, as `Tables`)
pub record Limitable (s stops ends vehicles : List ℕ) (rounds total : ℕ) : Type 0 where
  pub tables : Tables s stops ends vehicles rounds total
  pub right : T (outcome_right s (outcome_in stops ends vehicles rounds total))
  pub one : depots_of s ≡ 1
  pub all : total ≡ rows_of s - depots_of s
