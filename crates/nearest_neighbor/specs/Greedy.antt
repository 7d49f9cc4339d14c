-- docs/SCOPE.md#the-methods. What both nearest neighbours share: vehicles in order, each grows one round by the best stop left, the first of equals; what is left is set aside.
use Rattle.std.specs.Prelude.{ℕ, zero, suc, List, [], ◌∷◌, length, get_or, Some, None}
use Rattle.lists.specs.Moved.{without}
use Rattle.constructive.specs.Outcome.{Round, Outcome}
use Rattle.nearest_neighbor_choice.specs.StopChoice.{StopChoice}
use Rattle.nearest_neighbor_choice.specs.Choice.{Offer, choose, Trip, empty_trip}

-- ---- one round
-- a round and the stops that it leaves
pub record Grown : Type 0 where
  pub stops : List ℕ
  pub left : List ℕ

-- a rule: what it offers of a stop after a round so far, and the round with a stop more
pub record Rule : Type 0 where
  pub offer : Trip → ℕ → Offer
  pub onward : Trip → ℕ → Trip

-- a round that may grow on, or that no stop left can join
pub data Extension : Type 0 where
  extending : Trip → List ℕ → Extension
  extended : Trip → List ℕ → Extension

-- with the stop that was chosen
abbrev pub extended_by : Rule → Trip → List ℕ → StopChoice → Extension
extended_by rule trip left None = extended trip left
extended_by rule trip left (Some (j, k)) = extending (rule.onward trip (get_or left j 0)) (without j left)

unfoldable pub extend : Rule → Extension → Extension
extend rule (extending trip left) = extended_by rule trip left (choose (rule.offer trip) None 0 left)
extend rule (extended trip left) = extended trip left

-- n choices
unfoldable pub extend_on : Rule → ℕ → Extension → Extension
extend_on rule zero g = g
extend_on rule (suc n) g = extend_on rule n (extend rule g)

abbrev pub end_of_trip : Extension → Grown
end_of_trip (extending trip left) = record { stops = trip.stops; left = left }
end_of_trip (extended trip left) = record { stops = trip.stops; left = left }

-- a vehicle's round over the stops left: as many choices as there are stops
abbrev pub vehicle_round : Rule → ℕ → List ℕ → Grown
vehicle_round rule depot left = end_of_trip (extend_on rule (length left) (extending (empty_trip depot) left))

-- ---- the fleet
-- "One round per vehicle at most": a round without stops is none
abbrev pub with_stops : ℕ → List ℕ → List Round → List Round
with_stops v [] rounds = rounds
with_stops v (row ∷ rows) rounds = record { vehicle = v; stops = row ∷ rows } ∷ rounds

abbrev pub round_then : ℕ → List ℕ → Outcome → Outcome
round_then v stops o = record { rounds = with_stops v stops o.rounds; aside = o.aside }

-- "the rest of the stops are set aside, ascending": the members come ascending, and stay so
unfoldable pub greedy : (ℕ → Rule) → ℕ → List ℕ → List ℕ → Outcome
greedy rule depot [] left = record { rounds = []; aside = left }
greedy rule depot (v ∷ vs) left =
    let g = vehicle_round (rule v) depot left in
    round_then v g.stops (greedy rule depot vs g.left)
