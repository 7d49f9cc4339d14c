-- Whether some row has a window, said of the rows one after another. Assumes nothing.
use mathlib.Core.Path.{◌≡◌, refl}
use Prim.Native.Nat.{ℕ}
use mathlib.Core.Bool.{Bool}
use mathlib.Core.List.{List, [], ◌∷◌}
use Rattle.std.specs.List.{list_any}
use Rattle.evaluation.specs.Checks.{row_windowed, some_windowed}

pub some_over : (soft : Bool) (s rows : List ℕ) → list_any (λ (row : ℕ). row_windowed soft s row) rows ≡ some_windowed soft s rows
unfolding some_windowed
some_over soft s [] = refl
some_over soft s (row ∷ rows) = rw (some_over soft s rows)
