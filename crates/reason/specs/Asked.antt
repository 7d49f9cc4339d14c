-- What the functions ask: a stop's lone round, of a vehicle of the sheet and from a depot.
use Rattle.std.specs.Prelude.{ℕ, ◌<◌, List}
use Rattle.sheet.specs.Fields.{rows_of, vehicles_of}

pub record Lone (s : List ℕ) (depot index row : ℕ) : Type 0 where
  pub home : depot < rows_of s
  pub vehicle : index < vehicles_of s
  pub stop : row < rows_of s
