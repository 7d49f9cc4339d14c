-- What the record's steps ask: a round on the way, on an accepted sheet.
use Rattle.std.specs.Prelude.{ℕ, ◌+◌, ◌*◌, ◌≤◌, ◌<◌, List}
use Rattle.sheet.specs.Fields.{rows_of, most_rows}
use Rattle.sheet.specs.Accepted.{Accepted}
use Rattle.evaluator.specs.declared.Progress.{Progress}

-- at a row, with at most a million a stop loaded, and room for one stop more
pub record Driven (s : List ℕ) (p : Progress) : Type 0 where
  pub sheet : Accepted s
  pub from : p.prev < rows_of s
  pub room : p.place ≤ most_rows
  pub load : p.load + 1000000 ≤ 1000000 * p.place
