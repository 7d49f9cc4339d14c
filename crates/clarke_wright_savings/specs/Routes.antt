-- What is asked of rounds in their slots.
use Rattle.std.specs.Prelude.{◌≡◌, ℕ, ◌+◌, ◌<◌, List, [], ◌∷◌, length}
use Rattle.lists.specs.Count.{count}

-- ---- what a merge is
-- two slots, not the same
pub record Slots (routes : List (List ℕ)) (a b : ℕ) : Type 0 where
  pub differ : a ≡ b → ⊥
  pub into : a < length routes
  pub from : b < length routes

-- how often a row stands in the rounds
unfoldable pub count_in_routes : ℕ → List (List ℕ) → ℕ
count_in_routes x [] = 0
count_in_routes x (route ∷ routes) = count x route + count_in_routes x routes
