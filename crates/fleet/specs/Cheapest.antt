-- docs/SCOPE.md#the-limiter. Document 01, "fleet.rs": the limiter "reinserts its stops cheapest first". The cheapest insertion of one stop, and of the stops pending.
use Rattle.std.specs.Prelude.{ℕ, zero, suc, ◌+◌, Bool, true, not, ◌&&◌, ◌||◌, cond, List, [], ◌∷◌, length, Float, Some, None}
use Rattle.std.specs.Float.Ieee.{lt}
use Rattle.lists.specs.Moved.{inserted}
use Rattle.evaluation_clock.specs.Sums.{◌⊖◌}
use Rattle.evaluation.specs.Limits.{limits_at}
use Rattle.evaluation.specs.Feasible.{effective_cost}
use Rattle.constructive.specs.Outcome.{Round}
use Rattle.constructive.specs.Rounds.{passes}
use Rattle.insertion.specs.Lawful.{load_fits}
use Rattle.insertion.specs.Choice.{Choice}
use Rattle.insertion.specs.Place.{detour, Judged, judged, better_place}
use Rattle.fleet.specs.Pick.{Pick}

-- ---- a round of the vehicle at index v. The limiter has one depot, row 0.
-- distance plus lateness cost, in the units of distance
abbrev pub priced_of : List ℕ → ℕ → List ℕ → Float
priced_of s v route = effective_cost s 0 (limits_at s v) route

-- ---- one place. `soft` says whether some row has "window and penalty on one stop".
-- what the stop adds: with soft windows to the round's priced distance, else to its distance alone
abbrev pub insertion_cost : List ℕ → Bool → ℕ → List ℕ → ℕ → ℕ → Float
insertion_cost s soft v route row k = cond soft (priced_of s v (inserted k row route) ⊖ priced_of s v route) (detour s 0 route row k)

-- one place, judged: "`route_feasible` passes the round with the stop in it"
unfoldable pub judge_at : List ℕ → Bool → ℕ → List ℕ → ℕ → ℕ → Judged
judge_at s soft v route row k = judged (passes s 0 v (inserted k row route)) (insertion_cost s soft v route row k)

-- n places of the round counted i, from 0, from its k-th place on: "the first least insertion wins"
unfoldable pub places_from : List ℕ → Bool → ℕ → List ℕ → ℕ → ℕ → Choice → ℕ → ℕ → Choice
places_from s soft v route row i c zero k = c
places_from s soft v route row i c (suc n) k = places_from s soft v route row i (better_place c i k (judge_at s soft v route row k)) n (k + 1)

-- ---- one round
-- with soft windows a round that is not allowed as it stands takes no stop
unfoldable pub takes : List ℕ → Bool → ℕ → List ℕ → ℕ → Bool
takes s soft v route row = load_fits s v route row && (not soft || passes s 0 v route)

-- from before its first stop to after its last
unfoldable pub in_round : List ℕ → Bool → ℕ → Choice → ℕ → Round → Choice
in_round s soft row c i r = cond (takes s soft r.vehicle r.stops row) (places_from s soft r.vehicle r.stops row i c (suc (length r.stops)) 0) c

-- ---- one stop: the rounds from the i-th on. Of a choice the first number is the round.
unfoldable pub insertion_from : List ℕ → Bool → ℕ → Choice → ℕ → List Round → Choice
insertion_from s soft row c i [] = c
insertion_from s soft row c i (r ∷ rs) = insertion_from s soft row (in_round s soft row c i r) (i + 1) rs

-- `cheapest_insertion`
abbrev pub cheapest_insertion : List ℕ → Bool → List Round → ℕ → Choice
cheapest_insertion s soft rounds row = insertion_from s soft row None 0 rounds

-- ---- the stops pending: "cheapest first", the first of equals
abbrev pub cheaper : Float → Pick → Bool
cheaper cost None = true
cheaper cost (Some (j, i, k, least)) = lt cost least

abbrev pub pick_with : Pick → ℕ → Choice → Pick
pick_with p j None = p
pick_with p j (Some (i, k, cost)) = cond (cheaper cost p) (Some (j, i, k, cost)) p

-- those from place j on
unfoldable pub pick_from : List ℕ → Bool → List Round → Pick → ℕ → List ℕ → Pick
pick_from s soft rounds p j [] = p
pick_from s soft rounds p j (row ∷ rows) = pick_from s soft rounds (pick_with p j (cheapest_insertion s soft rounds row)) (j + 1) rows

abbrev pub pick_of : List ℕ → Bool → List Round → List ℕ → Pick
pick_of s soft rounds pending = pick_from s soft rounds None 0 pending
