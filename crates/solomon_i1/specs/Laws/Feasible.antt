-- Every round is of the vehicle, has a stop, keeps capacity and is feasible, on every sheet. Assumes nothing.
use Rattle.std.specs.Prelude.{◌≡◌, refl, ℕ, ◌+◌, ◌≤◌, ◌<◌, Bool, true, false, not, List, [], ◌∷◌, T, leb, Float, length, get_or}
use Rattle.std.proofs.Math.Nat.{zero-lt-suc}
use Rattle.std.proofs.Common.{arith}
use Rattle.std.proofs.Math.Dec.{leb→le}
use Rattle.std.specs.Float.Ieee.Fits.{and_l, and_r}
use Rattle.lists.specs.Every.{Every}
use Rattle.lists.specs.Laws.Every.{every_map}
use Rattle.lists.specs.Laws.Moved.{inserted_length}
use Rattle.lists.specs.Moved.{inserted}
use Rattle.sheet.specs.Values.{demand_of}
use Rattle.constructive.specs.Outcome.{Round, Outcome}
use Rattle.constructive.specs.Load.{load_of}
use Rattle.constructive.specs.Laws.Load.{inserted_load}
use Rattle.constructive.specs.Laws.Rounds.{OfFleet, of_first}
use Rattle.constructive.specs.Rounds.{Feasible}
use Rattle.constructive.specs.declared.terms.Terms.{Terms}
use Rattle.constructive.specs.Terms.{terms_of}
use Rattle.constructive.specs.Laws.Terms.{Meant, terms_meant}
use Rattle.insertion.specs.Place.{feasible_in, added_cost, place_too_dear, judged, place_fits, judge}
use Rattle.solomon_i1_judging.specs.Laws.Chosen.{Fit}
use Rattle.solomon_i1.specs.Insertion.{goes_alone, growing, route_in, solomon_i1}
use Rattle.solomon_i1.specs.Laws.Grown.{Keeps, grow_on_kept}
use Rattle.solomon_i1.specs.Laws.Planned.{seed_in, rest_in, round_in, Seeds, planned}

-- ---- one round
fit_judged : (b : Bool) (cost : Float) → Fit (judged b cost) → T b
fit_judged true cost h = tt
fit_judged false cost h = h

fit_feasible : (s : List ℕ) (t : Terms) (route : List ℕ) (row k : ℕ) → Fit (judge s t route row k) → T (feasible_in s t (inserted k row route))
unfolding judge
fit_feasible s t route row k h =
    and_l (feasible_in s t (inserted k row route)) (not (place_too_dear s t row (added_cost s t route row k))) (fit_judged (place_fits s t route row k) (added_cost s t route row k) h)

-- with a stop, within capacity, and feasible
record Built (s : List ℕ) (t : Terms) (route : List ℕ) : Type 0 where
  some : 0 < length route
  capacity : load_of s route ≤ t.capacity
  feasible : T (feasible_in s t route)

module _ (s : List ℕ) (t : Terms) where
  seed_built : (seed : ℕ) → T (goes_alone s t seed) → Built s t (seed ∷ [])
  unfolding load_of
  seed_built seed h =
      let l = leb→le (demand_of s seed) t.capacity (and_l (leb (demand_of s seed) t.capacity) (feasible_in s t (seed ∷ [])) h) in
      record {
        some = zero-lt-suc 0;
        capacity = omega (arith, l);
        feasible = and_r (leb (demand_of s seed) t.capacity) (feasible_in s t (seed ∷ [])) h;
      }

  keeps_built : Keeps s t (λ route left. Built s t route)
  keeps_built route left j k h p b =
      let row = get_or left j 0 in
      let l = leb→le (load_of s route + demand_of s row) t.capacity p.carried in
      let e = inserted_load k row route s in
      let n = inserted_length k row route in
      record {
        some = omega (arith, n);
        capacity = omega (arith, l, e);
        feasible = fit_feasible s t route row k p.fit;
      }

  round_built : (left : List ℕ) → T (goes_alone s t (seed_in s t left)) → Built s t (route_in (round_in s t left))
  round_built left h = grow_on_kept s t (λ route rest. Built s t route) keeps_built (length (rest_in s t left)) (growing (seed_in s t left ∷ []) (rest_in s t left)) (seed_built (seed_in s t left) h)

-- ---- every round
-- of the vehicle
pub record Inserted (s : List ℕ) (depot v : ℕ) (r : Round) : Type 0 where
  pub vehicle : r.vehicle ≡ v
  pub feasible : Feasible s depot r

module _ (s : List ℕ) (t : Terms) (m : Meant s t) where
  built_inserted : (route : List ℕ) → Built s t route → Inserted s t.depot t.vehicle (record { vehicle = t.vehicle; stops = route })
  built_inserted route b = record {
    vehicle = refl;
    feasible = record { carried = record { some = b.some; capacity = rw (← m.capacity) b.capacity }; feasible = rw (← m.limits) b.feasible };
  }

  abbrev Made : List ℕ → Outcome → Type 0
  Made left o = Every (Inserted s t.depot t.vehicle) o.rounds

  seeds_made : Seeds s t Made
  seeds_made = record {
    none = tt;
    aside = λ left h e o k. k;
    round = λ left h e o k. (built_inserted (route_in (round_in s t left)) (round_built s t left e), k);
  }

module _ (s : List ℕ) (depot v : ℕ) (members : List ℕ) where
  pub insertion_inserted : Every (Inserted s depot v) (solomon_i1 s depot v members).rounds
  unfolding solomon_i1 terms_of
  insertion_inserted = let t = terms_of s depot v members in let m = terms_meant s depot v members in planned s t (Made s t m) (seeds_made s t m) (length members) members (omega arith)

  pub insertion_feasible : Every (Feasible s depot) (solomon_i1 s depot v members).rounds
  insertion_feasible = every_map (Inserted s depot v) (Feasible s depot) (λ r k. k.feasible) (solomon_i1 s depot v members).rounds insertion_inserted

  -- so of the first vehicle of a fleet
  pub insertion_fleet : (fleet : List ℕ) → Every (OfFleet (v ∷ fleet)) (solomon_i1 s depot v members).rounds
  insertion_fleet fleet =
      every_map (Inserted s depot v) (OfFleet (v ∷ fleet)) (λ r k. of_first v fleet r k.vehicle) (solomon_i1 s depot v members).rounds insertion_inserted
