-- What the walkers ask of a sheet and of a round.
use Rattle.std.specs.Prelude.{ℕ, ◌≤◌, ◌<◌, List, length, get_or}
use Rattle.sheet.specs.Fields.{rows_of, most_rows}
use Rattle.sheet.specs.Accepted.{Accepted}

-- a round of rows of an accepted sheet, from a row as its depot; the rows of a depot's members are one too
-- (a clause, not a type: the rows are a slice of a table that the next trial writes over, and a type would be made anew for each)
pub record Routed (s : List ℕ) (depot : ℕ) (route : List ℕ) : Type 0 where
  pub sheet : Accepted s
  pub home : depot < rows_of s
  pub few : length route ≤ most_rows
  pub row : (k : ℕ) → k < length route → get_or route k 0 < rows_of s
