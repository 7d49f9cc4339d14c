-- The last of a list.
use Rattle.std.specs.Prelude.{ℕ, List, [], ◌∷◌}

-- the last of a list, or what stood before it
unfoldable pub last_of : ℕ → List ℕ → ℕ
last_of prev [] = prev
last_of prev (row ∷ rows) = last_of row rows
