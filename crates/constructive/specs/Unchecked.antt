-- A row without a window.
use Rattle.std.specs.Prelude.{◌≡◌, ℕ, false, List}
use Rattle.evaluation.specs.Checks.{row_windowed}

-- a row without a window
abbrev pub Windowless : List ℕ → ℕ → Type 0
Windowless s row = row_windowed false s row ≡ false
