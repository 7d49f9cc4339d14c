-- docs/SCOPE.md#the-methods. What both nearest neighbours share of a choice: the best stop left, the first of equals.
use Rattle.std.specs.Prelude.{ℕ, ◌+◌, Bool, true, cond, List, [], ◌∷◌, Float, Some, None}
use Rattle.std.specs.Float.Ieee.{lt}
use Rattle.sheet.specs.Values.{nought}
use Rattle.nearest_neighbor_choice.specs.StopChoice.{StopChoice}

-- ---- one choice: the best stop so far, its place among the stops left and its key
-- a stop's key, or that it cannot be taken
pub data Offer : Type 0 where
  out : Offer
  key : Float → Offer

-- the first of equals: a later stop wins only with a smaller key
abbrev pub wins_of : Float → StopChoice → Bool
wins_of k None = true
wins_of k (Some (i, b)) = lt k b

abbrev pub better_stop : StopChoice → ℕ → Offer → StopChoice
better_stop c j out = c
better_stop c j (key k) = cond (wins_of k c) (Some (j, k)) c

-- the best of the stops left from place j on
unfoldable pub choose : (ℕ → Offer) → StopChoice → ℕ → List ℕ → StopChoice
choose offer c j [] = c
choose offer c j (row ∷ rows) = choose offer (better_stop c j (offer row)) (j + 1) rows

-- ---- one round
-- the round so far: its stops, the last of them or the depot, what it carries, and the two figures that the rule sums
pub record Trip : Type 0 where
  pub stops : List ℕ
  pub current : ℕ
  pub load : ℕ
  pub travelled : Float
  pub clock : Float

abbrev pub empty_trip : ℕ → Trip
empty_trip depot = record { stops = []; current = depot; load = 0; travelled = nought; clock = nought }
