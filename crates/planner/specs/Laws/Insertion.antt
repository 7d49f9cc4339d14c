-- Insertion's plan of an accepted sheet with one depot keeps what is promised: no stop set aside makes a round alone, and no later stop fits in a round. Assumes nothing.
use Rattle.std.specs.Prelude.{◌≡◌, Bool, true, false, ◌&&◌, ◌||◌, T, leb, ltb, Float, length, get_or}
use Rattle.std.proofs.Math.Path.{refl, ap}
use Rattle.std.proofs.Common.{sym, ◌∙◌, subst, leb→le}
use Prim.Native.Nat.{ℕ, zero, suc, ◌+◌, ◌-◌, ◌≤◌, ◌<◌}
use native.Mathlib.Omega.{arith}
use Rattle.std.proofs.Math.Bool.{cond}
use mathlib.Core.List.{List, [], ◌∷◌}
use Rattle.std.proofs.Math.Dec.{eqb}
use borrow.Author.Tests.{lt-ltb, le-leb, eq-eqb}
use Rattle.lists.specs.Count.{one, count}
use Rattle.lists.specs.Laws.Count.{stop_counted}
use Rattle.lists.specs.Laws.Permutation.{count_at}
use Rattle.lists.specs.Every.{Every}
use Rattle.lists.specs.Laws.Every.{every_of, every_at}
use Rattle.lists.specs.Moved.{inserted}
use Rattle.lists.specs.Laws.Moved.{inserted_length, inserted_every}
use Rattle.lists.specs.Laws.Filter.{those_all, those_count, those_at}
use Rattle.lists.specs.Laws.Ascending.{those_ascending}
use Rattle.sheet.specs.Fields.{rows_of, vehicles_of, method_of, row_at, row_marks, marked, most_rows}
use Rattle.sheet.specs.Depots.{depots_of}
use Rattle.sheet.specs.Refusal.{needs_vehicle}
use Rattle.sheet.specs.Accepted.{Accepted}
use Rattle.sheet.specs.Values.{gate_of, gate_at, window_at, stop_of, demand_of, distance_of, vehicle_of}
use Rattle.sheet.specs.declared.customer.Window.{Window}
use Rattle.sheet.specs.Stops.{is_stop, all_stops}
use Rattle.sheet.specs.Fleet.{fleet_of}
use Rattle.evaluation.specs.Routed.{Routed}
use Rattle.evaluation.specs.Checks.{windowed, row_windowed, some_windowed, has_soft_windows}
use Rattle.lawful.specs.Whole.{Whole}
use Rattle.lawful.specs.Laws.Whole.{lt_whole, eq_whole}
use Rattle.lawful.specs.Laws.Amounts.{distance_amount}
use Rattle.lawful.specs.Lawful.{distance_n, home_of, capacity_n, lawful, load_n, keeps_capacity, makes_round, alone, seed_first, some_seed_first}
use Rattle.lawful.specs.Laws.Meaning.{feasible_lawful}
use Rattle.constructive.specs.Outcome.{Round, Outcome, stops_of, round_at}
use Rattle.constructive.specs.Right.{links_right}
use Rattle.constructive.specs.Load.{load_of}
use Rattle.constructive.specs.Laws.Load.{inserted_load}
use Rattle.constructive.specs.Rounds.{passes}
use Rattle.insertion.specs.Lawful.{ClosedTo, load_fits}
use Rattle.insertion.specs.Laws.Lawful.{both_not, not_both}
use Rattle.solomon_i1.specs.Insertion.{plan_on, solomon_i1}
use Rattle.solomon_i1.specs.Laws.Alone.{NotAlone, insertion_alone}
use Rattle.solomon_i1.specs.Later.{seeds_first, ClosedHigher, ClosedAside}
use Rattle.solomon_i1.specs.Laws.Closed.{aside_in, round_in_lem, insertion_closed_higher, insertion_closed_aside}
use Rattle.multi_depot_offers.specs.ByDepot.{with_vehicle, with_first, construct_of, planned_of, by_depot, outcome_of}
use Rattle.multi_depot_offers.specs.Laws.Once.{once}
use Rattle.multi_depot_offers.specs.Laws.Rounds.{stops_link, RoundOfSheet, rounds_known}
use Rattle.plan.specs.Read.{read_plan}
use Rattle.plan_reader.specs.Laws.Links.{stop_of_lem, links_at}
use Rattle.planner.specs.Answer.{plan_for, first_vehicle, Later, higher, set_aside, FitsNowhere, ClosedRounds}
use Rattle.planner.specs.Laws.Promised.{plan_back, Right, all_right, load_same}

-- ---- without a row that has both marks no window is soft
not_soft : (w p : Bool) (window : Window) (penalty : Float) → (T w → T p → ⊥) → windowed true (gate_of w p window penalty) ≡ false
not_soft false p window penalty f = refl
not_soft true false window penalty f = refl
not_soft true true window penalty f = absurd (f tt tt)

module _ (s : List ℕ) (whole : Whole s) where
  row_hard : (i : ℕ) → i < rows_of s → row_windowed true s i ≡ false
  unfolding stop_of gate_at
  row_hard i h = not_soft (marked 2 (row_marks s (row_at i))) (marked 4 (row_marks s (row_at i))) (window_at s (row_at i)) _ (whole.row i h).hard

  rows_hard : (rows : List ℕ) → Every (λ (i : ℕ). i < rows_of s) rows → some_windowed true s rows ≡ false
  unfolding some_windowed
  rows_hard [] e = refl
  rows_hard (i ∷ is) e = rw (row_hard i e.0, rows_hard is e.1)

  all_hard : (d : ℕ) (members : List ℕ) → d < rows_of s → Every (λ (i : ℕ). i < rows_of s) members → has_soft_windows s d members ≡ false
  unfolding has_soft_windows
  all_hard d members h e = rw (row_hard d h, rows_hard members e)

-- ---- the seed's rule, on whole numbers
module _ (s : List ℕ) (fine : Accepted s) (whole : Whole s) where
  seeds_alike : (d y x : ℕ) → d < rows_of s → y < rows_of s → x < rows_of s → seeds_first s d y x ≡ seed_first s d y x
  unfolding seeds_first
  seeds_alike d y x h k l =
      let a = distance_amount s fine whole d x h l in
      let b = distance_amount s fine whole d y h k in
      rw (lt_whole (distance_n s d x) (distance_n s d y) (distance_of s d x) (distance_of s d y) a.is b.is, eq_whole (distance_n s d x) (distance_n s d y) (distance_of s d x) (distance_of s d y) a.is b.is)

-- some stop of a list that it takes before another
some_seed : (s : List ℕ) (d : ℕ) (A : Type 0) (is : List ℕ) (x : ℕ) → T (some_seed_first s d is x) → ((y : ℕ) → 0 < count y is → T (seed_first s d y x) → A) → A
unfolding some_seed_first count
some_seed s d A [] x t f = absurd t
some_seed s d A (i ∷ is) x t f = go (seed_first s d i x) refl t (λ u. some_seed s d A is x u (λ y h. f y (omega arith)))
  where
    go : (b : Bool) → seed_first s d i x ≡ b → T (b || some_seed_first s d is x) → (T (some_seed_first s d is x) → A) → A
    go true e t g = f i (let k : one (eqb i i) ≡ 1 = rw (eq-eqb i i refl) in omega arith) (rw e tt)
    go false e t g = g t

counted_some : (x : ℕ) (xs : List ℕ) → 0 < count x xs → 0 < length xs
unfolding count
counted_some x [] h = h
counted_some x (y ∷ ys) h = omega arith

-- ---- one depot, insertion
module _ (s : List ℕ) (fine : Accepted s) (insertion : method_of s ≡ 1) (single : depots_of s ≡ 1) where
  -- every vehicle is the depot's
  home_first : (v : ℕ) → v < vehicles_of s → home_of s v ≡ 0
  home_first v h = omega (arith, (fine.vehicle v h).depot)

  -- there is a vehicle
  some_vehicle : 0 < vehicles_of s
  unfolding needs_vehicle
  some_vehicle = go (vehicles_of s) refl
    where
      go : (n : ℕ) → vehicles_of s ≡ n → 0 < n
      go zero e = absurd (fine.fleet e (rw insertion tt))
      go (suc n) e = omega arith

  abbrev first : ℕ
  first = first_vehicle s

  first_counted : 0 < count 0 (fleet_of s 0)
  unfolding fleet_of vehicle_of
  first_counted =
      let k : one (leb 0 0 && (ltb 0 (0 + vehicles_of s) && eqb (home_of s 0) 0)) ≡ 1 = rw (lt-ltb 0 (0 + vehicles_of s) (omega (arith, some_vehicle)), eq-eqb (home_of s 0) 0 (home_first 0 some_vehicle)) in
      omega (arith, those_count (λ v. eqb (vehicle_of s v).depot 0) (vehicles_of s) 0 0)

  -- what is planned is insertion's, with the depot's first vehicle
  abbrev stops : List ℕ
  stops = all_stops s

  abbrev outcome : Outcome
  outcome = solomon_i1 s 0 first stops

  none_inserted : (v : ℕ) → record { rounds = []; aside = [] } ≡ solomon_i1 s 0 v []
  unfolding solomon_i1 plan_on
  none_inserted v = refl

  first_inserts : (members fleet : List ℕ) → 0 < count 0 fleet → with_first s 0 members fleet ≡ solomon_i1 s 0 (get_or fleet 0 0) members
  unfolding with_vehicle count
  first_inserts members [] h = absurd (omega arith)
  first_inserts members (v ∷ fleet) h = rw insertion

  constructs_inserted : (members : List ℕ) → construct_of s 0 members (fleet_of s 0) ≡ solomon_i1 s 0 first members
  unfolding construct_of
  constructs_inserted members = rw insertion (first_inserts members (fleet_of s 0) first_counted)

  planned_inserted : (members : List ℕ) → planned_of s 0 members ≡ solomon_i1 s 0 first members
  unfolding planned_of
  planned_inserted [] = none_inserted first
  planned_inserted (c ∷ cs) = constructs_inserted (c ∷ cs)

  outcome_inserted : outcome_of s ≡ outcome
  unfolding outcome_of
  outcome_inserted = ap (λ (b : Bool). cond b (planned_of s 0 stops) (by_depot s)) (eq-eqb (depots_of s) 1 single) ∙ planned_inserted stops

  -- ---- what stands in the plan
  first_known : first < vehicles_of s
  unfolding fleet_of
  first_known = let l = those_at (λ v. eqb (vehicle_of s v).depot 0) (vehicles_of s) 0 0 (counted_some 0 (fleet_of s 0) first_counted) in omega (arith, l.1)

  stop_row : (i : ℕ) → 0 < count i (stops_of (outcome_of s)) → i < rows_of s
  stop_row i h = (stop_of_lem s i (stop_counted (is_stop s i) (omega (arith, once s i)))).1

  aside_row : (i : ℕ) → 0 < count i (outcome_of s).aside → i < rows_of s
  aside_row i h = stop_row i (omega (arith, aside_in i (outcome_of s).rounds (outcome_of s).aside))

  round_row : (n i : ℕ) → 0 < count i (round_at (outcome_of s).rounds n).stops → i < rows_of s
  round_row n i h = stop_row i (omega (arith, round_in_lem i (outcome_of s).rounds (outcome_of s).aside n))

  rows_at : (rows : List ℕ) → T (links_right s rows) → Every (λ (i : ℕ). i < rows_of s) rows
  rows_at rows t = every_of (λ (i : ℕ). i < rows_of s) 0 rows (λ k h. (links_at s rows k h t).1)

  stop_rows_lem : Every (λ (i : ℕ). i < rows_of s) stops
  stop_rows_lem = rows_at stops (stops_link s (λ c. true))

  stops_routed : 0 < rows_of s → Routed s 0 stops
  stops_routed h = record {
    sheet = fine;
    home = h;
    few = omega (arith, those_all (rows_of s - depots_of s) (depots_of s), fine.sized.rows);
    row = λ k l. every_at (λ (i : ℕ). i < rows_of s) 0 stops k l stop_rows_lem;
  }

  module _ (whole : Whole s) where
    -- a lawful schedule is one that `route_feasible` passes
    lawful_passes : (v : ℕ) (is : List ℕ) → v < vehicles_of s → 0 < rows_of s → length is ≤ most_rows → Every (λ (i : ℕ). i < rows_of s) is → T (lawful s v is) → T (passes s 0 v is)
    lawful_passes v is known some few rows t =
        let e = home_first v known in
        let ok : Routed s (home_of s v) is = record { sheet = fine; home = omega (arith, e); few = few; row = λ k h. every_at (λ (i : ℕ). i < rows_of s) 0 is k h rows } in
        subst (λ (d : ℕ). T (passes s d v is)) e (subst T (sym (feasible_lawful s v is whole known ok)) t)

    kept_load : (v : ℕ) (is : List ℕ) → T (keeps_capacity s v is) → load_of s is ≤ (vehicle_of s v).capacity
    unfolding keeps_capacity vehicle_of
    kept_load v is t = rw (← load_same s fine is) (leb→le (load_n s is) (capacity_n s v) t)

    -- ---- alone
    not_alone : (i : ℕ) → i < rows_of s → NotAlone s 0 first i → alone s first i ≡ false
    unfolding makes_round load_of
    not_alone i h f =
        both_not (lawful s first (i ∷ [])) (keeps_capacity s first (i ∷ []))
        (λ a b. f (omega (arith, kept_load first (i ∷ []) b)) (lawful_passes first (i ∷ []) first_known (omega arith) (omega arith) (h, tt) a))

    none_alone : Every (NotAlone s 0 first) (outcome_of s).aside
    none_alone = subst (λ (o : Outcome). Every (NotAlone s 0 first) o.aside) (sym outcome_inserted) (insertion_alone s 0 first stops)

    aside_alone : Every (λ (i : ℕ). alone s first i ≡ false) (outcome_of s).aside
    aside_alone =
        let aside = (outcome_of s).aside in
        every_of (λ (i : ℕ). alone s first i ≡ false) 0 aside
        (λ k h. not_alone (get_or aside k 0) (aside_row (get_or aside k 0) (count_at aside k h)) (every_at (NotAlone s 0 first) 0 aside k h none_alone))

    -- ---- closed
    hard : 0 < rows_of s → has_soft_windows s 0 stops ≡ false
    hard h = all_hard s whole 0 stops h stop_rows_lem

    fits_nowhere : (i : ℕ) (r : Round) → i < rows_of s → r.vehicle < vehicles_of s → Right s fine r → ClosedTo s 0 r i → FitsNowhere s i r
    unfolding makes_round
    fits_nowhere i r h known u c k l =
        let is = inserted k i r.stops in
        let e = inserted_load k i r.stops s in
        let n = inserted_length k i r.stops in
        both_not (lawful s r.vehicle is) (keeps_capacity s r.vehicle is)
        (λ a b.
        let within = le-leb (load_of s r.stops + demand_of s i) (vehicle_of s r.vehicle).capacity (omega (arith, e, kept_load r.vehicle is b)) in
        not_both (load_fits s r.vehicle r.stops i) (passes s 0 r.vehicle is) (c k l) (rw within tt)
        (lawful_passes r.vehicle is known (omega arith) (omega (arith, n, u.few, fine.sized.rows, single)) (inserted_every k i r.stops (λ (i : ℕ). i < rows_of s) h (rows_at r.stops u.links)) a))

    later_row : (n i : ℕ) → Later s (outcome_of s) n i → i < rows_of s
    later_row n i (higher m h l c) = round_row m i c
    later_row n i (set_aside c t) = aside_row i c

    closed_higher : 0 < rows_of s → ClosedHigher s 0 (outcome_of s).rounds
    closed_higher h = subst (λ (o : Outcome). ClosedHigher s 0 o.rounds) (sym outcome_inserted) (insertion_closed_higher s 0 first stops (hard h))

    closed_aside : 0 < rows_of s → ClosedAside s 0 (outcome_of s).rounds (outcome_of s).aside
    closed_aside h =
        subst (λ (o : Outcome). ClosedAside s 0 o.rounds o.aside) (sym outcome_inserted)
        (insertion_closed_aside s 0 first stops (stops_routed h) (those_ascending (λ c. true) (rows_of s - depots_of s) (depots_of s)) (hard h))

    closed_later : (n i : ℕ) → n < length (outcome_of s).rounds → i < rows_of s → Later s (outcome_of s) n i → ClosedTo s 0 (round_at (outcome_of s).rounds n) i
    closed_later n i h l (higher m k u c) = closed_higher (omega arith) n m i k u c
    closed_later n i h l (set_aside c t) =
        some_seed s 0 (ClosedTo s 0 (round_at (outcome_of s).rounds n) i) (round_at (outcome_of s).rounds n).stops i t
        (λ y k u. closed_aside (omega arith) n i y h c k (subst T (sym (seeds_alike s fine whole 0 y i (omega arith) (round_row n y k) l)) u))

    rounds_closed : ClosedRounds s (outcome_of s)
    rounds_closed n i h later =
        let o = outcome_of s in
        let l = later_row n i later in
        fits_nowhere i (round_at o.rounds n) l (every_at (RoundOfSheet s) _ o.rounds n h (rounds_known s)).vehicle (every_at (Right s fine) _ o.rounds n h (all_right s fine)) (closed_later n i h l later)

-- ---- read from the plan's bytes
module _ (s : List ℕ) (fine : Accepted s) (small : (i : ℕ) → get_or s i 0 < 256) where
  pub alone_kept : Whole s → method_of s ≡ 1 → depots_of s ≡ 1 → Every (λ (i : ℕ). alone s (first_vehicle s) i ≡ false) (read_plan s (plan_for s)).aside
  alone_kept whole insertion single = rw (plan_back s fine small) (aside_alone s fine insertion single whole)

  pub closed_kept : Whole s → method_of s ≡ 1 → depots_of s ≡ 1 → ClosedRounds s (read_plan s (plan_for s))
  closed_kept whole insertion single = rw (plan_back s fine small) (rounds_closed s fine insertion single whole)
