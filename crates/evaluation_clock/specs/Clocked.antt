-- What the steps of a clock ask of a sheet and of the clock.
use Rattle.std.specs.Prelude.{ℕ, ◌<◌, List}
use Rattle.sheet.specs.Fields.{rows_of}
use Rattle.sheet.specs.Accepted.{Accepted}
use Rattle.evaluation_clock.specs.declared.clock.BreakClock.{BreakClock}

-- a clock at a row of an accepted sheet, with room to count its next stop
-- (a clause, not the clock's invariant: it is a fact of clock and sheet, and a clock does not hold the sheet)
pub record Clocked (s : List ℕ) (c : BreakClock) : Type 0 where
  pub sheet : Accepted s
  pub from : c.prev < rows_of s
  pub room : c.place < 0xffff
