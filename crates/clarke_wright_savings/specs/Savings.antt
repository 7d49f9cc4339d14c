-- docs/SCOPE.md#the-methods. Document 01, "clarke_wright.rs": "only savings > 0, greatest first, ties as generated. Capacity is tested at merges only, so a lone stop may exceed it."
use Rattle.std.specs.Prelude.{ℕ, zero, suc, ◌+◌, Bool, true, false, not, ◌&&◌, ◌||◌, cond, List, [], ◌∷◌, ◌++◌, map, reverse, leb, ltb, eqb, length, get_or, set, Float}
use Rattle.std.specs.Float.Ieee.{lt, le, eq}
use Rattle.lists.specs.Fold.{last_of}
use Rattle.lists.specs.Count.{count}
use Rattle.sorting.specs.Stable.{sorted}
use Rattle.sorting.specs.Descending.{greater}
use Rattle.sheet.specs.Values.{nought, distance_of}
use Rattle.evaluation_clock.specs.Sums.{◌⊕◌, ◌⊖◌}
use Rattle.evaluation.specs.Feasible.{route_feasible, effective_cost}
use Rattle.constructive.specs.declared.terms.Terms.{Terms}
use Rattle.constructive.specs.Terms.{terms_of}
use Rattle.constructive.specs.Outcome.{Round, Outcome}
use Rattle.constructive.specs.Load.{load_of}
use Rattle.clarke_wright_savings.specs.declared.terms.Directed.{Directed}

-- ---- the terms of one depot
-- "Symmetry reads distances only": each leg is as long as the way back. Of finite distances the Rust's difference above 0 says the same.
unfoldable pub same_back : List ℕ → ℕ → List ℕ → Bool
same_back s i [] = true
same_back s i (j ∷ js) = eq (distance_of s i j) (distance_of s j i) && same_back s i js

unfoldable pub symmetric : List ℕ → List ℕ → Bool
symmetric s [] = true
symmetric s (i ∷ is) = same_back s i is && symmetric s is

-- "symmetry, windows and penalties are read from" the depot's own rows only; v is the vehicle that all rounds use
unfoldable pub directed_of : List ℕ → ℕ → ℕ → List ℕ → Directed
directed_of s depot v members = record { common = terms_of s depot v members; directed = not (symmetric s (depot ∷ members)) }

-- ---- the savings
pub record Saving : Type 0 where
  pub from : ℕ
  pub to : ℕ
  pub value : Float

-- what the leg from i to j saves: the way home, the way out, and a vehicle
abbrev pub value_of : List ℕ → Terms → ℕ → ℕ → Float
value_of s t i j = distance_of s i t.depot ⊕ distance_of s t.depot j ⊖ distance_of s i j ⊕ t.fixed

abbrev pub saving_of : List ℕ → Terms → ℕ → ℕ → Saving
saving_of s t i j = record { from = i; to = j; value = value_of s t i j }

-- a pair is met once, unless legs have a direction
abbrev pub paired : Bool → ℕ → ℕ → Bool
paired directed i j = not (eqb j i) && (directed || not (ltb j i))

-- "only savings > 0"
abbrev pub saves : List ℕ → Directed → ℕ → ℕ → Bool
saves s t i j = paired t.directed i j && lt nought (value_of s t.common i j)

abbrev pub kept_if : Bool → Saving → List Saving → List Saving
kept_if true x xs = x ∷ xs
kept_if false x xs = xs

-- of the legs from i
unfoldable pub savings_from : List ℕ → Directed → ℕ → List ℕ → List Saving
savings_from s t i [] = []
savings_from s t i (j ∷ js) = kept_if (saves s t i j) (saving_of s t.common i j) (savings_from s t i js)

-- as generated
unfoldable pub savings_of : List ℕ → Directed → List ℕ → List ℕ → List Saving
savings_of s t members [] = []
savings_of s t members (i ∷ is) = savings_from s t i members ++ savings_of s t members is

-- the n numbers from k on
unfoldable pub numbered : ℕ → ℕ → List ℕ
numbered zero k = []
numbered (suc n) k = k ∷ numbered n (k + 1)

abbrev pub values_of : List Saving → List Float
values_of savings = map (λ (x : Saving). x.value) savings

-- "greatest first, ties as generated": the savings by their places
unfoldable pub ranked : List Saving → List ℕ
ranked savings = sorted (greater (values_of savings)) (numbered (length savings) 0)

-- ---- the rounds: a slot for each member, in order
abbrev pub route_at : List (List ℕ) → ℕ → List ℕ
route_at routes k = get_or routes k []

-- a stop that may make a round alone; "Capacity is tested at merges only"
unfoldable pub starts_alone : List ℕ → Terms → ℕ → Bool
starts_alone s t row = not t.constrained || route_feasible s t.depot t.limits (row ∷ [])

-- each starts on its own, or has no round
abbrev pub lone_route : Bool → ℕ → List ℕ
lone_route true row = row ∷ []
lone_route false row = []

unfoldable pub starts_of : List ℕ → Terms → List ℕ → List (List ℕ)
starts_of s t [] = []
starts_of s t (row ∷ rows) = lone_route (starts_alone s t row) row ∷ starts_of s t rows

-- the slot that holds a row; the one past them where none does
unfoldable pub slot_of : ℕ → List (List ℕ) → ℕ
slot_of x [] = 0
slot_of x (route ∷ routes) = cond (ltb 0 (count x route)) 0 (suc (slot_of x routes))

-- ---- one merge
abbrev pub first_is : ℕ → List ℕ → Bool
first_is x [] = false
first_is x (row ∷ rows) = eqb row x

abbrev pub last_is : ℕ → List ℕ → Bool
last_is x [] = false
last_is x (row ∷ rows) = eqb (last_of row rows) x

-- two rounds stay apart, or a slot takes the other's stops, and has these then
pub data Merge : Type 0 where
  apart : Merge
  joined : ℕ → ℕ → List ℕ → Merge

-- i's slot a and j's slot b, end to end: only along the leg where legs have a direction, else also against it or with one round reversed
abbrev pub joining : Bool → ℕ → ℕ → ℕ → ℕ → List ℕ → List ℕ → Merge
joining directed i j a b ri rj =
    cond (last_is i ri && first_is j rj) (joined a b (ri ++ rj))
    (cond directed apart
    (cond (last_is j rj && first_is i ri) (joined b a (rj ++ ri))
    (cond (last_is i ri && last_is j rj) (joined a b (ri ++ reverse rj))
    (cond (first_is i ri && first_is j rj) (joined a b (reverse ri ++ rj)) apart))))

abbrev pub only_if : Bool → Merge → Merge
only_if true m = m
only_if false m = apart

-- not the same round, and within capacity
abbrev pub may_join : List ℕ → Terms → ℕ → ℕ → List ℕ → List ℕ → Bool
may_join s t a b ri rj = not (eqb a b) && leb (load_of s ri + load_of s rj) t.capacity

-- "soft windows (..) also need the added cost to be below going alone plus the fixed cost": of the slot that takes, then of the one taken
abbrev pub merge_too_dear : List ℕ → Terms → List ℕ → List ℕ → List ℕ → Bool
merge_too_dear s t into from stops =
    t.soft
    && le (effective_cost s t.depot t.limits into ⊕ effective_cost s t.depot t.limits from ⊕ t.fixed) (effective_cost s t.depot t.limits stops)

-- a round so joined may stand
abbrev pub joined_passes : List ℕ → Terms → List ℕ → List ℕ → List ℕ → Bool
joined_passes s t into from stops = not t.constrained || (route_feasible s t.depot t.limits stops && not (merge_too_dear s t into from stops))

unfoldable pub merge_passes : List ℕ → Terms → List (List ℕ) → Merge → Bool
merge_passes s t routes apart = true
merge_passes s t routes (joined into from stops) = joined_passes s t (route_at routes into) (route_at routes from) stops

abbrev pub passing : List ℕ → Terms → List (List ℕ) → Merge → Merge
passing s t routes m = only_if (merge_passes s t routes m) m

-- what becomes of the rounds of i and j, in slots a and b
abbrev pub merge_in : List ℕ → Directed → List (List ℕ) → ℕ → ℕ → ℕ → ℕ → Merge
merge_in s t routes i j a b =
    passing s t.common routes
    (only_if (may_join s t.common a b (route_at routes a) (route_at routes b)) (joining t.directed i j a b (route_at routes a) (route_at routes b)))

unfoldable pub merge_of : List ℕ → Directed → List (List ℕ) → ℕ → ℕ → Merge
merge_of s t routes i j = merge_in s t routes i j (slot_of i routes) (slot_of j routes)

abbrev pub after_merge : List (List ℕ) → Merge → List (List ℕ)
after_merge routes apart = routes
after_merge routes (joined into from stops) = set (set routes into stops) from []

abbrev pub no_saving : Saving
no_saving = record { from = 0; to = 0; value = nought }

-- the savings at these places, one after another
unfoldable pub merged_by : List ℕ → Directed → List Saving → List ℕ → List (List ℕ) → List (List ℕ)
merged_by s t savings [] routes = routes
merged_by s t savings (e ∷ es) routes =
    let x = get_or savings e no_saving in
    merged_by s t savings es (after_merge routes (merge_of s t routes x.from x.to))

-- ---- the outcome
unfoldable pub rounds_of : ℕ → List (List ℕ) → List Round
rounds_of v [] = []
rounds_of v ([] ∷ routes) = rounds_of v routes
rounds_of v ((row ∷ rows) ∷ routes) = record { vehicle = v; stops = row ∷ rows } ∷ rounds_of v routes

-- the stops that have no round: the members come ascending, and stay so
abbrev pub aside_unless : Bool → ℕ → List ℕ → List ℕ
aside_unless true row rows = rows
aside_unless false row rows = row ∷ rows

unfoldable pub aside_of : List ℕ → Terms → List ℕ → List ℕ
aside_of s t [] = []
aside_of s t (row ∷ rows) = aside_unless (starts_alone s t row) row (aside_of s t rows)

abbrev pub routes_of : List ℕ → Directed → List ℕ → List (List ℕ)
routes_of s t members =
    let savings = savings_of s t members members in
    merged_by s t savings (ranked savings) (starts_of s t.common members)

unfoldable pub planned_by : List ℕ → Directed → List ℕ → Outcome
planned_by s t members = record { rounds = rounds_of t.common.vehicle (routes_of s t members); aside = aside_of s t.common members }

-- "Savings, insertion and sweep use the depot's first vehicle for all rounds": v is its index
unfoldable pub clarke_wright : List ℕ → ℕ → ℕ → List ℕ → Outcome
clarke_wright s depot v members = planned_by s (directed_of s depot v members) members
