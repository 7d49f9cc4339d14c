-- Lists that ascend.
use Rattle.std.specs.Prelude.{ℕ, ◌<◌, List, [], ◌∷◌}
use Rattle.lists.specs.Every.{Every}

-- each number below all that come after it
abbrev pub Ascending : List ℕ → Type 0
Ascending [] = Unit
Ascending (row ∷ rows) = Every (λ (x : ℕ). row < x) rows × Ascending rows
