-- How often a row stands in a list.
use Rattle.std.specs.Prelude.{ℕ, ◌+◌, Bool, true, false, List, [], ◌∷◌, ltb, eqb}

-- a truth, counted
abbrev pub one : Bool → ℕ
one true = 1
one false = 0

-- how often a row stands in a list
unfoldable pub count : ℕ → List ℕ → ℕ
count x [] = 0
count x (y ∷ ys) = one (eqb x y) + count x ys

-- whether it stands there
abbrev pub is_in : ℕ → List ℕ → Bool
is_in x xs = ltb 0 (count x xs)
