-- The best stop so far, as the Rust has it: its place among the stops left, and its key.
use Rattle.std.specs.Prelude.{ℕ, Float, Option}

abbrev pub StopChoice : Type 0
StopChoice = Option (ℕ × Float)
