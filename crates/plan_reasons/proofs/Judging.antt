-- The test of each row, said of them one after another. Assumes nothing.
use mathlib.Core.Path.{◌≡◌, refl}
use Prim.Native.Nat.{ℕ}
use mathlib.Core.List.{List, [], ◌∷◌}
use lib.Dec.{leb}
use Rattle.std.specs.List.{list_all}
use Rattle.sheet.specs.Fields.{rows_of}
use Rattle.plan_reasons.specs.Reasons.{reason_at, reasons_right}

pub right_over : (s plan rows : List ℕ) → list_all (λ (row : ℕ). leb (reason_at plan (rows_of s) row) 8) rows ≡ reasons_right s plan rows
unfolding reasons_right
right_over s plan [] = refl
right_over s plan (row ∷ rows) = rw (right_over s plan rows)
