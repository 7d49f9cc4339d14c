-- A stop taken out of a list, and one put into a list.
use Rattle.std.specs.Prelude.{ℕ, ◌+◌, List, ◌∷◌, ◌++◌, take, drop}

-- the stops left without the one at place j
abbrev pub without : ℕ → List ℕ → List ℕ
without j left = take j left ++ drop (j + 1) left

-- the round with a stop in it, before its k-th
abbrev pub inserted : ℕ → ℕ → List ℕ → List ℕ
inserted k row route = take k route ++ (row ∷ drop k route)
