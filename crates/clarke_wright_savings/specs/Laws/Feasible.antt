-- Every round of the savings is feasible, and with two stops or more it keeps its vehicle's capacity. Assumes nothing.
use Rattle.std.specs.Prelude.{◌≡◌, refl, ℕ, ◌≤◌, ◌<◌, Bool, T, length}
use Rattle.std.proofs.Common.{zero-lt-suc, arith}
use Rattle.std.proofs.Math.Bool.{true, false}
use mathlib.Core.List.{List, [], ◌∷◌}
use Rattle.lists.specs.Every.{Every}
use Rattle.lists.specs.Laws.Every.{every_map}
use Rattle.sheet.specs.Values.{vehicle_of}
use Rattle.evaluation.specs.Limits.{limits_at}
use Rattle.constructive.specs.declared.terms.Terms.{Terms}
use Rattle.constructive.specs.Terms.{terms_of}
use Rattle.constructive.specs.Outcome.{Round}
use Rattle.constructive.specs.Load.{load_of}
use Rattle.constructive.specs.Rounds.{passes}
use Rattle.constructive.specs.Laws.Rounds.{OfFleet, of_first}
use Rattle.constructive.specs.Laws.Checked.{Known, members_known, stands_feasible}
use Rattle.clarke_wright_savings.specs.declared.terms.Directed.{Directed}
use Rattle.clarke_wright_savings.specs.Savings.{directed_of, savings_of, ranked, starts_alone, lone_route, starts_of, rounds_of, routes_of, planned_by, clarke_wright}
use Rattle.clarke_wright_savings.specs.Laws.Joined.{RoutesKept, Keeps, merged_every}

-- ---- a round so far
-- P is what holds of each member
record Built (s : List ℕ) (t : Terms) (P : ℕ → Type 0) (route : List ℕ) : Type 0 where
  rows : Every P route
  capacity : 1 < length route → load_of s route ≤ t.capacity
  stands : 0 < length route → RoutesKept s t route

module _ (s : List ℕ) (t : Terms) (P : ℕ → Type 0) where
  built_none : Built s t P []
  built_none = record { rows = tt; capacity = λ h. absurd (omega (arith, h)); stands = λ h. absurd (omega (arith, h)) }

  built_keeps : Keeps s t P (Built s t P)
  built_keeps = record {
    none = built_none;
    joins = λ into from stops k carried stands a b. record { rows = k.every a.rows b.rows; capacity = λ h. carried; stands = λ h. stands };
  }

  starts_built : (members : List ℕ) → Every P members → Every (Built s t P) (starts_of s t members)
  unfolding starts_of starts_alone
  starts_built [] e = tt
  starts_built (row ∷ rows) e = (go (starts_alone s t row) (λ h. h), starts_built rows e.1)
    where
      go : (b : Bool) → (T b → RoutesKept s t (row ∷ [])) → Built s t P (lone_route b row)
      go true f = record { rows = (e.0, tt); capacity = λ h. absurd (omega (arith, h)); stands = λ h. f tt }
      go false f = built_none

routes_built : (s : List ℕ) (t : Directed) (P : ℕ → Type 0) (members : List ℕ) → Every P members → Every (Built s t.common P) (routes_of s t members)
routes_built s t P members e =
    let savings = savings_of s t members members in
    let u = t.common in
    merged_every s t P (Built s u P) (built_keeps s u P) savings (ranked savings) (starts_of s u members) (starts_built s u P members e)

-- ---- every round
rounds_every : (Q : List ℕ → Type 0) (R : Round → Type 0) (v : ℕ) → ((stops : List ℕ) → 0 < length stops → Q stops → R (record { vehicle = v; stops = stops }))
    → (routes : List (List ℕ)) → Every Q routes → Every R (rounds_of v routes)
unfolding rounds_of
rounds_every Q R v f [] e = tt
rounds_every Q R v f ([] ∷ routes) e = rounds_every Q R v f routes e.1
rounds_every Q R v f ((row ∷ rows) ∷ routes) e = (f (row ∷ rows) (zero-lt-suc (length rows)) e.0, rounds_every Q R v f routes e.1)

-- a round with stops, of vehicle v: "Capacity is tested at merges only, so a lone stop may exceed it."
pub record Saved (s : List ℕ) (depot v : ℕ) (r : Round) : Type 0 where
  pub vehicle : r.vehicle ≡ v
  pub some : 0 < length r.stops
  pub capacity : 1 < length r.stops → load_of s r.stops ≤ (vehicle_of s v).capacity
  pub feasible : T (passes s depot v r.stops)

module _ (s : List ℕ) (depot v : ℕ) (members : List ℕ) where
  pub savings_saved : Every (Saved s depot v) (clarke_wright s depot v members).rounds
  unfolding clarke_wright planned_by directed_of terms_of
  savings_saved =
      let t = directed_of s depot v members in
      let limits = limits_at s v in
      let P = Known s depot members limits in
      rounds_every (Built s t.common P) (Saved s depot v) v
      (λ stops h b. record { vehicle = refl; some = h; capacity = b.capacity; feasible = stands_feasible s depot members limits stops b.rows (b.stands h) })
      (routes_of s t members) (routes_built s t P members (members_known s depot members limits))

-- so of the first vehicle of a fleet
pub savings_fleet : (s : List ℕ) (depot v : ℕ) (fleet members : List ℕ) → Every (OfFleet (v ∷ fleet)) (clarke_wright s depot v members).rounds
savings_fleet s depot v fleet members =
    every_map (Saved s depot v) (OfFleet (v ∷ fleet)) (λ r k. of_first v fleet r k.vehicle) (clarke_wright s depot v members).rounds (savings_saved s depot v members)
