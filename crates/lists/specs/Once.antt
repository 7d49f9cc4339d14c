-- Rows that are stops.
use Rattle.std.specs.Prelude.{ℕ, ◌<◌, List, [], ◌∷◌}

-- rows that are stops: none is 0, which ends a chain
abbrev pub Stops : ℕ → List ℕ → Type 0
Stops n [] = Unit
Stops n (row ∷ rows) = ((0 < row) × (row < n)) × Stops n rows
