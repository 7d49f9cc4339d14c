-- docs/SCOPE.md#the-methods. One place of a round for one stop: what the stop adds there, whether it may stand there, and the best of several places.
use Rattle.std.specs.Prelude.{ℕ, zero, suc, ◌+◌, Bool, true, false, not, ◌&&◌, cond, List, [], ◌∷◌, leb, eqb, length, get_or, Float, Some, None}
use Rattle.std.specs.Float.Ieee.{lt, le}
use Rattle.lists.specs.Moved.{inserted}
use Rattle.sheet.specs.Values.{demand_of, distance_of}
use Rattle.evaluation_clock.specs.Sums.{◌⊕◌, ◌⊖◌}
use Rattle.evaluation.specs.Feasible.{route_feasible, effective_cost}
use Rattle.constructive.specs.Load.{load_of}
use Rattle.constructive.specs.declared.terms.Terms.{Terms}
use Rattle.insertion.specs.Choice.{Choice}

-- ---- a round by the terms of its depot
abbrev pub feasible_in : List ℕ → Terms → List ℕ → Bool
feasible_in s t route = route_feasible s t.depot t.limits route

abbrev pub cost_in : List ℕ → Terms → List ℕ → Float
cost_in s t route = effective_cost s t.depot t.limits route

-- ---- one place
-- the row before place k and the one after it: the depot at the ends
-- (that there is such a place is a clause: it is one of a round that the next trial writes over)
abbrev pub row_before : ℕ → List ℕ → ℕ → ℕ
row_before depot route zero = depot
row_before depot route (suc k) = get_or route k 0

abbrev pub row_after : ℕ → List ℕ → ℕ → ℕ
row_after depot route k = cond (eqb k (length route)) depot (get_or route k 0)

-- the way past the stop, less the leg that it breaks
abbrev pub detour : List ℕ → ℕ → List ℕ → ℕ → ℕ → Float
detour s depot route row k =
    let prev = row_before depot route k in
    let next = row_after depot route k in
    distance_of s prev row ⊕ distance_of s row next ⊖ distance_of s prev next

-- what the stop adds to the round: with soft windows its lateness counts too
abbrev pub added_cost : List ℕ → Terms → List ℕ → ℕ → ℕ → Float
added_cost s t route row k = cond t.soft (cost_in s t (inserted k row route) ⊖ cost_in s t route) (detour s t.depot route row k)

-- "soft windows (..) also need the added cost to be below going alone plus the fixed cost"
abbrev pub place_too_dear : List ℕ → Terms → ℕ → Float → Bool
place_too_dear s t row cost = t.soft && le (cost_in s t (row ∷ []) ⊕ t.fixed) cost

-- a place's cost, or that the stop may not stand there
pub data Judged : Type 0 where
  unfit : Judged
  costs : Float → Judged

abbrev pub judged : Bool → Float → Judged
judged true cost = costs cost
judged false cost = unfit

-- one place, judged: "`route_feasible` passes the round with the stop in it", and it is not too dear
abbrev pub place_fits : List ℕ → Terms → List ℕ → ℕ → ℕ → Bool
place_fits s t route row k = feasible_in s t (inserted k row route) && not (place_too_dear s t row (added_cost s t route row k))

unfoldable pub judge : List ℕ → Terms → List ℕ → ℕ → ℕ → Judged
judge s t route row k = judged (place_fits s t route row k) (added_cost s t route row k)

-- ---- one choice
-- "the first least insertion wins": a later one wins only if it costs less
abbrev pub wins : Float → Choice → Bool
wins cost None = true
wins cost (Some (j, k, least)) = lt cost least

abbrev pub better_place : Choice → ℕ → ℕ → Judged → Choice
better_place c j k unfit = c
better_place c j k (costs cost) = cond (wins cost c) (Some (j, k, cost)) c

-- the stop at place j of those unrouted, at n places of the round from k on
unfoldable pub try_places : List ℕ → Terms → List ℕ → ℕ → ℕ → Choice → ℕ → ℕ → Choice
try_places s t route j row c zero k = c
try_places s t route j row c (suc n) k = try_places s t route j row (better_place c j k (judge s t route row k)) n (k + 1)

-- "A place for a stop is lawful if the load stays within capacity"
abbrev pub carries : List ℕ → Terms → List ℕ → ℕ → Bool
carries s t route row = leb (load_of s route + demand_of s row) t.capacity
