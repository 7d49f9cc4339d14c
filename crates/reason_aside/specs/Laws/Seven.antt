-- Reason 7, "the fleet is used up", is given by the two nearest neighbours alone. Assumes nothing.
use Rattle.std.specs.Prelude.{◌≡◌, refl, ℕ, ◌<◌, Bool, true, false, cond, List, [], ◌∷◌, leb, eqb}
use Rattle.std.proofs.Common.{arith, leb-true, leb-false, ltb-true, eqb-true, ne_eqb}
use Rattle.std.proofs.lemmas.Bool.{eqb-false}
use Rattle.std.specs.Float.Ieee.Bits.{is_true}
use Rattle.lists.specs.Count.{count}
use Rattle.lists.specs.Laws.Count.{stop_counted}
use Rattle.sheet.specs.Fields.{rows_of, vehicles_of, method_of}
use Rattle.sheet.specs.Depots.{depots_of}
use Rattle.sheet.specs.Fleet.{fleet_of}
use Rattle.sheet.specs.Stops.{is_stop, all_stops}
use Rattle.sheet.specs.Laws.Stops.{all_once}
use Rattle.sheet.specs.Accepted.{Accepted}
use Rattle.constructive.specs.Members.{members_of}
use Rattle.clarke_wright_savings.specs.Savings.{clarke_wright}
use Rattle.solomon_i1.specs.Insertion.{solomon_i1}
use Rattle.solomon_i1.specs.Laws.Closed.{aside_in}
use Rattle.sweep.specs.Sweep.{sweep}
use Rattle.multi_depot_offers.specs.ByDepot.{with_vehicle, construct_of, planned_of, settled_at, by_depot, outcome_of}
use Rattle.multi_depot_offers.specs.Laws.Settled.{and_second, depot_row}
use Rattle.multi_depot_offers.specs.Laws.Once.{planned_keeps}
use Rattle.reason.specs.Asked.{Lone}
use Rattle.reason.specs.Reason.{last_tried, lone_reason, reason_by, reason_of}
use Rattle.reason.specs.Laws.Tried.{last_tried_manned}
use Rattle.reason.specs.Laws.Reason.{reason_no_vehicle}
use Rattle.reason_aside.specs.Laws.Fleet.{fleet_known, first_counted}
use Rattle.reason_aside.specs.Laws.Aside.{aside_row, aside_turned_down}
use Rattle.reason_aside.specs.Laws.Lone.{lone_fails_savings, lone_fails_insertion, lone_fails_sweep}

-- ---- one depot's planning, by the other methods
module _ (s : List ℕ) (a : Accepted s) (two : method_of s ≡ 2 → ⊥) (three : method_of s ≡ 3 → ⊥) (i : ℕ) (row : i < rows_of s) where
  module _ (d : ℕ) (home : d < rows_of s) where
    vehicle_fails : (v : ℕ) → v < vehicles_of s → (members : List ℕ) → 0 < count i (with_vehicle s d members v).aside → lone_reason s d v i ≡ 7 → ⊥
    unfolding with_vehicle
    vehicle_fails v vehicle members h = go (eqb (method_of s) 0) refl (eqb (method_of s) 1) refl h
      where
        lone : Lone s d v i
        lone = record { home = home; vehicle = vehicle; stop = row }

        go : (x : Bool) → eqb (method_of s) 0 ≡ x → (y : Bool) → eqb (method_of s) 1 ≡ y → 0 < count i (cond x (clarke_wright s d v members) (cond y (solomon_i1 s d v members) (sweep s d v members))).aside → lone_reason s d v i ≡ 7 → ⊥
        go true p y q h = lone_fails_savings s d v i a lone (eqb-true (method_of s) 0 p) members h
        go false p true q h = lone_fails_insertion s d v i a lone (eqb-true (method_of s) 1 q) members h
        go false p false q h = lone_fails_sweep s d v i a lone (omega (arith, a.method, eqb-false (method_of s) 0 p, eqb-false (method_of s) 1 q, two, three)) members h

    fleet_fails : (fleet : List ℕ) → fleet_of s d ≡ fleet → (members : List ℕ) → 0 < count i (construct_of s d members fleet).aside → reason_by s d i fleet ≡ 7 → ⊥
    unfolding construct_of reason_by
    fleet_fails [] f members h e = absurd (omega arith)
    fleet_fails (v ∷ vs) f members h e =
        let m = ne_eqb (method_of s) 2 two in
        let n = ne_eqb (method_of s) 3 three in
        vehicle_fails v (fleet_known s d v (first_counted v (fleet_of s d) vs f)).0 members (rw (m, n) at h) (rw (m, n) at e)

    planned_fails : (members : List ℕ) → 0 < count i (planned_of s d members).aside → reason_by s d i (fleet_of s d) ≡ 7 → ⊥
    unfolding planned_of count
    planned_fails [] h = absurd (omega arith)
    planned_fails (c ∷ cs) h = fleet_fails (fleet_of s d) refl (c ∷ cs) h

-- ---- the outcome
module _ (s : List ℕ) (a : Accepted s) (two : method_of s ≡ 2 → ⊥) (three : method_of s ≡ 3 → ⊥) (i : ℕ) where
  one_fails : 0 < vehicles_of s → depots_of s ≡ 1 → 0 < count i (planned_of s 0 (all_stops s)).aside → reason_of s i ≡ 7 → ⊥
  unfolding reason_of
  one_fails some one h e =
      let o = planned_of s 0 (all_stops s) in
      let row = ltb-true i (rows_of s) (and_second (leb (depots_of s) i) _ (is_true _ (stop_counted (is_stop s i) (omega (arith, h, aside_in i o.rounds o.aside, planned_keeps s 0 (all_stops s) i, all_once s i))))) in
      let q : last_tried s i ≡ 0 = omega (arith, (last_tried_manned s a i some).0, one) in
      planned_fails s a two three i row 0 (omega arith) (all_stops s) h (rw q at e)

  several_fail : 0 < vehicles_of s → 0 < count i (by_depot s).aside → reason_of s i ≡ 7 → ⊥
  unfolding reason_of
  several_fail some h =
      let row = aside_row s a some i h in
      planned_fails s a two three i row (last_tried s i) (depot_row s a i row (last_tried s i) (last_tried_manned s a i some).0) (members_of s (settled_at s) (last_tried s i)) (aside_turned_down s a some i h)

  -- WHAT SAVINGS, INSERTION AND SWEEP SET ASIDE never has reason 7
  pub seven_nearest : 0 < count i (outcome_of s).aside → reason_of s i ≡ 7 → ⊥
  unfolding outcome_of
  seven_nearest h e = go (leb (vehicles_of s) 0) refl (eqb (depots_of s) 1) refl h
    where
      go : (n : Bool) → leb (vehicles_of s) 0 ≡ n → (b : Bool) → eqb (depots_of s) 1 ≡ b → 0 < count i (cond b (planned_of s 0 (all_stops s)) (by_depot s)).aside → ⊥
      go true f b g h = let l = leb-true (vehicles_of s) 0 f in let r = (reason_no_vehicle s a i).1 (omega arith) in absurd (omega arith)
      go false f true g h = one_fails (leb-false (vehicles_of s) 0 f) (eqb-true (depots_of s) 1 g) h e
      go false f false g h = several_fail (leb-false (vehicles_of s) 0 f) h e
