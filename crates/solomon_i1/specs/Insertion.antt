-- docs/SCOPE.md#the-methods. Document 01, "solomon_i1.rs": "the seed is the farthest unrouted stop, the first of equals; the first least insertion wins. Stops set aside stand in the order met."
use Rattle.std.specs.Prelude.{ℕ, zero, suc, ◌+◌, Bool, true, false, ◌&&◌, cond, List, [], ◌∷◌, leb, length, get_or, Float, Some, None}
use Rattle.std.specs.Float.Ieee.{lt}
use Rattle.lists.specs.Moved.{without, inserted}
use Rattle.sheet.specs.Values.{nought, demand_of, distance_of}
use Rattle.constructive.specs.Outcome.{Outcome, empty_outcome}
use Rattle.constructive.specs.declared.terms.Terms.{Terms}
use Rattle.constructive.specs.Terms.{terms_of}
use Rattle.insertion.specs.Choice.{Choice}
use Rattle.insertion.specs.Place.{feasible_in}
use Rattle.solomon_i1_judging.specs.Choice.{best_of}

-- ---- the seed
-- the farthest stop so far, by its place among those unrouted, and its leg from the depot
pub record Farthest : Type 0 where
  pub place : ℕ
  pub distance : Float

-- "the first of equals": a later stop wins only if it is farther
abbrev pub farther : List ℕ → ℕ → Farthest → ℕ → ℕ → Farthest
farther s depot f j row = cond (lt f.distance (distance_of s depot row)) (record { place = j; distance = distance_of s depot row }) f

-- over the stops from place j on
unfoldable pub farthest_from : List ℕ → ℕ → Farthest → ℕ → List ℕ → Farthest
farthest_from s depot f j [] = f
farthest_from s depot f j (row ∷ rows) = farthest_from s depot (farther s depot f j row) (j + 1) rows

-- the first stop and no distance, before any is seen
abbrev pub unseen : Farthest
unseen = record { place = 0; distance = nought }

abbrev pub seed_of : List ℕ → ℕ → List ℕ → ℕ
seed_of s depot left = (farthest_from s depot unseen 0 left).place

-- a stop that a round can take alone: within capacity, and "`route_feasible` passes" it
abbrev pub goes_alone : List ℕ → Terms → ℕ → Bool
goes_alone s t row = leb (demand_of s row) t.capacity && feasible_in s t (row ∷ [])

-- ---- one round
-- a round that may grow on, or that no stop left can join, with the stops left
pub data Growth : Type 0 where
  growing : List ℕ → List ℕ → Growth
  grown : List ℕ → List ℕ → Growth

-- with the stop that was chosen, at its place
abbrev pub grown_by : List ℕ → List ℕ → Choice → Growth
grown_by route left None = grown route left
grown_by route left (Some (j, k, cost)) = growing (inserted k (get_or left j 0) route) (without j left)

unfoldable pub grow : List ℕ → Terms → Growth → Growth
grow s t (growing route left) = grown_by route left (best_of s t route left)
grow s t (grown route left) = grown route left

-- n choices
unfoldable pub grow_on : List ℕ → Terms → ℕ → Growth → Growth
grow_on s t zero g = g
grow_on s t (suc n) g = grow_on s t n (grow s t g)

abbrev pub route_in : Growth → List ℕ
route_in (growing route left) = route
route_in (grown route left) = route

abbrev pub left_in : Growth → List ℕ
left_in (growing route left) = left
left_in (grown route left) = left

-- a seed's round over the stops left: as many choices as there are stops
abbrev pub round_from : List ℕ → Terms → ℕ → List ℕ → Growth
round_from s t seed left = grow_on s t (length left) (growing (seed ∷ []) left)

-- ---- the plan
-- what becomes of a seed, and the stops left then
pub data Step : Type 0 where
  lone : ℕ → List ℕ → Step
  closed : List ℕ → List ℕ → Step

abbrev pub step_with : List ℕ → Terms → Bool → ℕ → List ℕ → Step
step_with s t false seed left = lone seed left
step_with s t true seed left =
    let g = round_from s t seed left in
    closed (route_in g) (left_in g)

abbrev pub step_from : List ℕ → Terms → ℕ → List ℕ → Step
step_from s t seed left = step_with s t (goes_alone s t seed) seed left

unfoldable pub seed_step : List ℕ → Terms → List ℕ → Step
seed_step s t left =
    let j = seed_of s t.depot left in
    step_from s t (get_or left j 0) (without j left)

abbrev pub left_by : Step → List ℕ
left_by (lone seed left) = left
left_by (closed route left) = left

-- "Stops set aside stand in the order met", and rounds in the order closed
abbrev pub plan_by : ℕ → Step → Outcome → Outcome
plan_by v (lone seed left) o = record { rounds = o.rounds; aside = seed ∷ o.aside }
plan_by v (closed route left) o = record { rounds = record { vehicle = v; stops = route } ∷ o.rounds; aside = o.aside }

-- n seeds
unfoldable pub plan_on : List ℕ → Terms → ℕ → List ℕ → Outcome
plan_on s t zero left = empty_outcome
plan_on s t (suc n) [] = empty_outcome
plan_on s t (suc n) (row ∷ rows) =
    let x = seed_step s t (row ∷ rows) in
    plan_by t.vehicle x (plan_on s t n (left_by x))

-- "Savings, insertion and sweep use the depot's first vehicle for all rounds": v is its index. Each seed leaves a stop less.
unfoldable pub solomon_i1 : List ℕ → ℕ → ℕ → List ℕ → Outcome
solomon_i1 s depot v members = plan_on s (terms_of s depot v members) (length members) members
