-- The numbers of a run that a test keeps, ascending.
use Rattle.std.specs.Prelude.{ℕ, zero, suc, ◌+◌, Bool, true, false, List, [], ◌∷◌}

abbrev pub keep_if : Bool → ℕ → List ℕ → List ℕ
keep_if true i rest = i ∷ rest
keep_if false i rest = rest

-- those of the n numbers from i on
unfoldable pub filtered : (ℕ → Bool) → ℕ → ℕ → List ℕ
filtered p zero i = []
filtered p (suc n) i = keep_if (p i) i (filtered p n (i + 1))
