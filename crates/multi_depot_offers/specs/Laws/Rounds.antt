-- What holds of every round that a depot's constructor makes holds of every round of the outcome; a round has stops, and a vehicle of the depot that it was planned for. Assumes nothing.
use Rattle.std.specs.Prelude.{◌≡◌, Bool, ◌&&◌, cond, T, leb, ltb, length, get_or}
use Rattle.std.proofs.Math.Path.{refl}
use Prim.Native.Nat.{ℕ, zero, suc, ◌+◌, ◌-◌, ◌≤◌, ◌<◌}
use Rattle.std.proofs.Common.{arith, lt→ltb, ltb→lt, eqb→eq}
use Rattle.std.proofs.Math.Bool.{true, false}
use mathlib.Core.List.{List, [], ◌∷◌}
use Rattle.std.proofs.Math.Dec.{eqb}
use Rattle.std.specs.Float.Ieee.Fits.{and_i, and_l, and_r}
use borrow.Author.Tests.{eqb-true}
use Rattle.lists.specs.Count.{count}
use Rattle.lists.specs.Laws.Count.{stop_counted}
use Rattle.lists.specs.Laws.Once.{distinct_few}
use Rattle.lists.specs.Every.{Every}
use Rattle.lists.specs.Laws.Every.{every_append, every_both, every_map}
use Rattle.lists.specs.Laws.Filter.{those_few, those_count}
use Rattle.sheet.specs.Fields.{rows_of, vehicles_of, method_of}
use Rattle.sheet.specs.Depots.{depots_of}
use Rattle.sheet.specs.Values.{vehicle_of}
use Rattle.sheet.specs.Stops.{is_stop, stops_with, all_stops}
use Rattle.sheet.specs.Laws.Stops.{stops_count}
use Rattle.sheet.specs.Fleet.{fleet_of}
use Rattle.constructive.specs.Outcome.{Round, Outcome, stops_of}
use Rattle.constructive.specs.Right.{ids_known, links_right, each_once, outcome_right}
use Rattle.constructive.specs.Laws.Right.{stops_right, distinct_right, links_of}
use Rattle.constructive.specs.Laws.Rounds.{OfFleet}
use Rattle.constructive.specs.Rounds.{Feasible}
use Rattle.constructive.specs.Stored.{routed_in}
use Rattle.constructive.specs.Laws.Stored.{length_chains}
use Rattle.constructive.specs.Members.{members_of}
use Rattle.nearest_neighbor.specs.Greedy.{Rule, vehicle_round, with_stops, greedy}
use Rattle.nearest_neighbor.specs.Nearest.{nearest_neighbor, nearest_neighbor_tw}
use Rattle.nearest_neighbor.specs.Laws.Feasible.{nearest_fleet, window_fleet}
use Rattle.clarke_wright_savings.specs.Savings.{clarke_wright}
use Rattle.clarke_wright_savings.specs.Laws.Feasible.{Saved, savings_saved, savings_fleet}
use Rattle.solomon_i1.specs.Insertion.{solomon_i1}
use Rattle.solomon_i1.specs.Laws.Feasible.{insertion_feasible, insertion_fleet}
use Rattle.sweep.specs.Sweep.{sweep}
use Rattle.sweep.specs.Laws.Feasible.{sweep_feasible, sweep_fleet}
use Rattle.multi_depot_offers.specs.ByDepot.{with_vehicle, with_first, construct_of, planned_of, planned_upto, gathered, by_depot, settled_at, outcome_of}
use Rattle.multi_depot_offers.specs.Laws.Once.{links_right_lem, each_once_lem}

-- ---- from the depots to the outcome
-- the stops that a test keeps are stops
pub stops_link : (s : List ℕ) (p : ℕ → Bool) → T (links_right s (stops_with s p))
stops_link s p = links_of s (stops_with s p) (λ x h. and_l (is_stop s x) (p x) (stop_counted (is_stop s x && p x) (omega (arith, stops_count s p x))))

-- and no more than there are rows
stops_few : (s : List ℕ) (p : ℕ → Bool) → length (stops_with s p) ≤ rows_of s
stops_few s p = omega (arith, those_few p (rows_of s - depots_of s) (depots_of s))

module _ (s : List ℕ) (P : Round → Type 0) (holds : (d : ℕ) → d < depots_of s → (members : List ℕ) → T (links_right s members) → length members ≤ rows_of s → Every P (construct_of s d members (fleet_of s d)).rounds) where
  planned_every : (d : ℕ) → d < depots_of s → (members : List ℕ) → T (links_right s members) → length members ≤ rows_of s → Every P (planned_of s d members).rounds
  unfolding planned_of
  planned_every d h [] t l = tt
  planned_every d h (c ∷ cs) t l = holds d h (c ∷ cs) t l

  upto_every : (at : List ℕ) (n : ℕ) → n ≤ depots_of s → Every P (planned_upto s at n).rounds
  unfolding planned_upto members_of
  upto_every at zero h = tt
  upto_every at (suc n) h = every_append P (planned_upto s at n).rounds (planned_of s n (members_of s at n)).rounds (upto_every at n (omega arith)) (planned_every n h (members_of s at n) (stops_link s (λ c. eqb (get_or at c 0) n)) (stops_few s (λ c. eqb (get_or at c 0) n)))

  pub rounds_every : Every P (outcome_of s).rounds
  unfolding outcome_of by_depot gathered
  rounds_every = go (eqb (depots_of s) 1) refl
    where
      go : (b : Bool) → eqb (depots_of s) 1 ≡ b → Every P (cond b (planned_of s 0 (all_stops s)) (by_depot s)).rounds
      go true e = let q = eqb-true (depots_of s) 1 e in planned_every 0 (omega arith) (all_stops s) (stops_link s (λ c. true)) (stops_few s (λ c. true))
      go false e = upto_every (settled_at s) (depots_of s) (omega arith)

-- ---- a round's vehicle and stops
-- of a depot's fleet, and not empty
pub record RoundFrom (s : List ℕ) (depot : ℕ) (r : Round) : Type 0 where
  pub vehicle : r.vehicle < vehicles_of s
  pub home : (vehicle_of s r.vehicle).depot ≡ depot
  pub some : 0 < length r.stops

in_fleet : (s : List ℕ) (d v : ℕ) → 0 < count v (fleet_of s d) → (v < vehicles_of s) × ((vehicle_of s v).depot ≡ d)
unfolding fleet_of
in_fleet s d v h =
    let t = stop_counted (leb 0 v && (ltb v (0 + vehicles_of s) && eqb (vehicle_of s v).depot d)) (omega (arith, those_count (λ v. eqb (vehicle_of s v).depot d) (vehicles_of s) 0 v)) in
    let u = and_r (leb 0 v) (ltb v (0 + vehicles_of s) && eqb (vehicle_of s v).depot d) t in
    let l = ltb→lt v (0 + vehicles_of s) (and_l (ltb v (0 + vehicles_of s)) (eqb (vehicle_of s v).depot d) u) in
    (omega arith, eqb→eq (vehicle_of s v).depot d (and_r (ltb v (0 + vehicles_of s)) (eqb (vehicle_of s v).depot d) u))

-- a round without stops is none
abbrev Some : Round → Type 0
Some r = 0 < length r.stops

with_some : (v : ℕ) (stops : List ℕ) (rounds : List Round) → Every Some rounds → Every Some (with_stops v stops rounds)
with_some v [] rounds e = e
with_some v (row ∷ rows) rounds e = (omega arith, e)

greedy_some : (rule : ℕ → Rule) (depot : ℕ) (fleet left : List ℕ) → Every Some (greedy rule depot fleet left).rounds
unfolding greedy
greedy_some rule depot [] left = tt
greedy_some rule depot (v ∷ vs) left = let g = vehicle_round (rule v) depot left in with_some v g.stops (greedy rule depot vs g.left).rounds (greedy_some rule depot vs g.left)

module _ (s : List ℕ) (d : ℕ) (members : List ℕ) where
  made : (o : Outcome) → Every (OfFleet (fleet_of s d)) o.rounds → Every Some o.rounds → Every (RoundFrom s d) o.rounds
  made o = every_both (OfFleet (fleet_of s d)) Some (RoundFrom s d) (λ r f e. let q = in_fleet s d r.vehicle f in record { vehicle = q.0; home = q.1; some = e }) o.rounds

  -- what holds of each of the three with one vehicle
  vehicle_every : (P : Round → Type 0) (v : ℕ) → Every P (clarke_wright s d v members).rounds → Every P (solomon_i1 s d v members).rounds → Every P (sweep s d v members).rounds
      → Every P (with_vehicle s d members v).rounds
  unfolding with_vehicle
  vehicle_every P v e f g = go (eqb (method_of s) 0) (eqb (method_of s) 1)
    where
      go : (a b : Bool) → Every P (cond a (clarke_wright s d v members) (cond b (solomon_i1 s d v members) (sweep s d v members))).rounds
      go true b = e
      go false true = f
      go false false = g

  first_fleet : (fleet : List ℕ) → Every (OfFleet fleet) (with_first s d members fleet).rounds
  first_fleet [] = tt
  first_fleet (v ∷ fleet) = vehicle_every (OfFleet (v ∷ fleet)) v (savings_fleet s d v fleet members) (insertion_fleet s d v members fleet) (sweep_fleet s d v members fleet)

  feasible_some : (rs : List Round) → Every (Feasible s d) rs → Every Some rs
  feasible_some = every_map (Feasible s d) Some (λ r k. k.carried.some)

  first_some : (fleet : List ℕ) → Every Some (with_first s d members fleet).rounds
  first_some [] = tt
  first_some (v ∷ fleet) =
      vehicle_every Some v
      (every_map (Saved s d v) Some (λ r k. k.some) (clarke_wright s d v members).rounds (savings_saved s d v members))
      (feasible_some (solomon_i1 s d v members).rounds (insertion_feasible s d v members))
      (feasible_some (sweep s d v members).rounds (sweep_feasible s d v members))

  pub constructs_from : Every (RoundFrom s d) (construct_of s d members (fleet_of s d)).rounds
  unfolding construct_of nearest_neighbor nearest_neighbor_tw
  constructs_from = go (eqb (method_of s) 2) (eqb (method_of s) 3)
    where
      go : (a b : Bool) → Every (RoundFrom s d) (cond a (nearest_neighbor s d members (fleet_of s d)) (cond b (nearest_neighbor_tw s d members (fleet_of s d)) (with_first s d members (fleet_of s d)))).rounds
      go true b = made (nearest_neighbor s d members (fleet_of s d)) (nearest_fleet s d members (fleet_of s d)) (greedy_some _ d (fleet_of s d) members)
      go false true = made (nearest_neighbor_tw s d members (fleet_of s d)) (window_fleet s d members (fleet_of s d)) (greedy_some _ d (fleet_of s d) members)
      go false false = made (with_first s d members (fleet_of s d)) (first_fleet (fleet_of s d)) (first_some (fleet_of s d))

-- of the outcome: its vehicle is known, and it has stops
pub record RoundOfSheet (s : List ℕ) (r : Round) : Type 0 where
  pub vehicle : r.vehicle < vehicles_of s
  pub some : 0 < length r.stops

from_sheet : (s : List ℕ) (d : ℕ) (rs : List Round) → Every (RoundFrom s d) rs → Every (RoundOfSheet s) rs
from_sheet s d rs e = every_map (RoundFrom s d) (RoundOfSheet s) (λ r f. record { vehicle = f.vehicle; some = f.some }) rs e

pub rounds_known : (s : List ℕ) → Every (RoundOfSheet s) (outcome_of s).rounds
rounds_known s = rounds_every s (RoundOfSheet s) (λ d h members t l. from_sheet s d (construct_of s d members (fleet_of s d)).rounds (constructs_from s d members))

ids_of : (s : List ℕ) (rs : List Round) → Every (RoundOfSheet s) rs → T (ids_known s rs)
unfolding ids_known
ids_of s [] e = tt
ids_of s (r ∷ rs) e = and_i (ltb r.vehicle (vehicles_of s)) (ids_known s rs) (lt→ltb r.vehicle (vehicles_of s) e.0.vehicle) (ids_of s rs e.1)

-- ---- how many
rounds_routed : (s : List ℕ) (rs : List Round) → Every (RoundOfSheet s) rs → length rs ≤ routed_in rs
unfolding routed_in
rounds_routed s [] e = omega arith
rounds_routed s (r ∷ rs) e = omega (arith, e.0.some, rounds_routed s rs e.1)

pub planned_routed : (s : List ℕ) (d : ℕ) (members : List ℕ) → length (planned_of s d members).rounds ≤ routed_in (planned_of s d members).rounds
unfolding planned_of
planned_routed s d [] = omega arith
planned_routed s d (c ∷ cs) = rounds_routed s (construct_of s d (c ∷ cs) (fleet_of s d)).rounds (from_sheet s d (construct_of s d (c ∷ cs) (fleet_of s d)).rounds (constructs_from s d (c ∷ cs)))

-- of the first n depots too
pub upto_routed : (s at : List ℕ) (n : ℕ) → n ≤ depots_of s → length (planned_upto s at n).rounds ≤ routed_in (planned_upto s at n).rounds
upto_routed s at n h = rounds_routed s (planned_upto s at n).rounds (upto_every s (RoundOfSheet s) (λ d h members t l. from_sheet s d (construct_of s d members (fleet_of s d)).rounds (constructs_from s d members)) at n h)

-- ---- the outcome is one that a plan can tell
pub outcome_right_lem : (s : List ℕ) → T (outcome_right s (outcome_of s))
unfolding outcome_right
outcome_right_lem s =
    and_i (ids_known s (outcome_of s).rounds) (links_right s (stops_of (outcome_of s)) && each_once s (stops_of (outcome_of s)))
    (ids_of s (outcome_of s).rounds (rounds_known s))
    (and_i (links_right s (stops_of (outcome_of s))) (each_once s (stops_of (outcome_of s))) (links_right_lem s) (each_once_lem s))

-- no more rounds than stops
pub rounds_few : (s : List ℕ) → length (outcome_of s).rounds ≤ rows_of s
rounds_few s =
    let o = outcome_of s in
    let r = distinct_few (rows_of s) (stops_of o) (stops_right s (stops_of o) (links_right_lem s)) (distinct_right s (stops_of o) (links_right_lem s) (each_once_lem s)) in
    omega (arith, rounds_routed s o.rounds (rounds_known s), length_chains o.rounds o.aside)
