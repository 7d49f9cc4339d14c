-- The best so far over all stops pending: the stop by its place among them, the round, the place in the round, and what it costs.
use Rattle.std.specs.Prelude.{ℕ, Float, Option}

abbrev pub Pick : Type 0
Pick = Option (ℕ × ℕ × ℕ × Float)
