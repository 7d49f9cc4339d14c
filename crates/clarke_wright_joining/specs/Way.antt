-- Two rounds stay apart, or the first slot takes the stops of the second; then whether its own are reversed, and whether those that it takes are.
use Rattle.std.specs.Prelude.{ℕ, Bool, Option}

abbrev pub Way : Type 0
Way = Option (ℕ × ℕ × Bool × Bool)
