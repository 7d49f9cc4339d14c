-- The best insertion so far, as the Rust has it: the stop by its place among those unrouted, its place in the round, and what it costs.
use Rattle.std.specs.Prelude.{ℕ, Float, Option}

abbrev pub Choice : Type 0
Choice = Option (ℕ × ℕ × Float)
