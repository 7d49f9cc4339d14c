-- Where a rest stands, as the Rust has it: none, or before the stop counted so, from 1, with its start.
use Rattle.std.specs.Prelude.{ℕ, Float, Option}

abbrev pub RestAnswer : Type 0
RestAnswer = Option (ℕ × Float)
