-- docs/SCOPE.md#refusals. What refusal 10 asks of an outcome that is read off a plan: "unknown id, a link to no stop, or a stop not exactly once in all chains".
use Rattle.std.specs.Prelude.{ℕ, Bool, true, ◌&&◌, ◌||◌, List, [], ◌∷◌, ltb, eqb}
use Rattle.lists.specs.Count.{count}
use Rattle.numbers.specs.All.{all}
use Rattle.sheet.specs.Fields.{rows_of, vehicles_of}
use Rattle.sheet.specs.Depots.{depots_of}
use Rattle.sheet.specs.Stops.{is_stop}
use Rattle.constructive.specs.Outcome.{Round, Outcome, stops_of}

-- no "unknown id"
unfoldable pub ids_known : List ℕ → List Round → Bool
ids_known s [] = true
ids_known s (r ∷ rs) = ltb r.vehicle (vehicles_of s) && ids_known s rs

-- no "link to no stop"
unfoldable pub links_right : List ℕ → List ℕ → Bool
links_right s [] = true
links_right s (row ∷ rows) = is_stop s row && links_right s rows

-- each stop exactly once: "every pond stands once"
unfoldable pub each_once : List ℕ → List ℕ → Bool
each_once s rows = all (λ i. ltb i (depots_of s) || eqb (count i rows) 1) (rows_of s)

-- all three
unfoldable pub outcome_right : List ℕ → Outcome → Bool
outcome_right s o = ids_known s o.rounds && (links_right s (stops_of o) && each_once s (stops_of o))
