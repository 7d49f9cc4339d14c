-- The plan of an accepted sheet keeps what is promised: every stop once, and feasible and lawful rounds. Assumes nothing.
use Rattle.std.specs.Prelude.{◌≡◌, ℕ, zero, suc, ◌+◌, ◌-◌, ◌≤◌, ◌<◌, Bool, ◌||◌, cond, ltb, length, get_or}
use Rattle.std.proofs.Math.Path.{refl, ap, subst}
use Rattle.std.proofs.Common.{sym, ◌∙◌, zero-lt-suc, le→leb, eqb-true, ltb-true, ltb-false, le-leb, lt-ltb}
use native.Mathlib.Omega.{arith}
use Rattle.std.proofs.Math.Bool.{true, false}
use mathlib.Core.List.{List, [], ◌∷◌}
use Rattle.std.proofs.Math.Dec.{T, eqb}
use Rattle.std.proofs.Math.ListN.{length-append}
use Rattle.lists.specs.Count.{one}
use Rattle.lists.specs.Laws.Permutation.{same_length}
use Rattle.lists.specs.Every.{Every}
use Rattle.lists.specs.Laws.Every.{every_both, every_map}
use Rattle.lists.specs.Laws.Filter.{those_all}
use Rattle.sheet.specs.Fields.{rows_of, vehicles_of, method_of}
use Rattle.sheet.specs.Depots.{depots_of}
use Rattle.sheet.specs.Refusal.{refusal_of}
use Rattle.sheet.specs.Accepted.{Accepted}
use Rattle.sheet.specs.Values.{demand_of, vehicle_of}
use Rattle.sheet.specs.Stops.{is_stop, all_stops}
use Rattle.sheet.specs.Laws.Stops.{all_once}
use Rattle.sheet.specs.Fleet.{fleet_of}
use Rattle.evaluation.specs.Routed.{Routed}
use Rattle.evaluation.specs.Checks.{has_soft_windows}
use Rattle.lawful.specs.Whole.{Whole}
use Rattle.lawful.specs.Lawful.{home_of, load_n, keeps_capacity}
use Rattle.lawful.specs.Laws.Meaning.{feasible_lawful}
use Rattle.constructive.specs.Outcome.{Round, chains, stops_of}
use Rattle.constructive.specs.Right.{links_right}
use Rattle.constructive.specs.Load.{load_of}
use Rattle.constructive.specs.Rounds.{passes, Carried, Feasible}
use Rattle.nearest_neighbor.specs.Greedy.{extend_on, greedy}
use Rattle.nearest_neighbor.specs.Nearest.{window_rule, nearest_neighbor, nearest_neighbor_tw}
use Rattle.nearest_neighbor.specs.Laws.Feasible.{nearest_carried, window_feasible}
use Rattle.clarke_wright_savings.specs.Savings.{clarke_wright}
use Rattle.clarke_wright_savings.specs.Laws.Feasible.{Saved, savings_saved}
use Rattle.solomon_i1.specs.Insertion.{solomon_i1}
use Rattle.solomon_i1.specs.Laws.Feasible.{insertion_feasible}
use Rattle.sweep.specs.Sweep.{sweep}
use Rattle.sweep.specs.Laws.Feasible.{sweep_feasible}
use Rattle.multi_depot_offers.specs.ByDepot.{with_vehicle, with_first, construct_of, outcome_of}
use Rattle.multi_depot_offers.specs.Laws.Once.{once, links_right_lem}
use Rattle.multi_depot_offers.specs.Laws.Rounds.{RoundFrom, constructs_from, rounds_every, outcome_right_lem, rounds_few}
use Rattle.plan.specs.Plan.{plan_of}
use Rattle.plan.specs.Read.{read_plan}
use Rattle.reason.specs.Reason.{reason_of}
use Rattle.reason.specs.Laws.Reason.{reason_range}
use Rattle.plan_door.specs.Door.{plan_taken}
use Rattle.plan_door.specs.Laws.Told.{told_back, told_taken}
use Rattle.plan_reader.specs.Laws.Links.{links_front, links_back, links_at}
use Rattle.planner.specs.Answer.{plan_for, told_by, answer_of, answer_number, Answered, capacity_kept, Standing, FeasibleRound, LawfulRound}

-- the number is the refusal's, or 0
pub number_is : (s : List ℕ) (room : ℕ) → answer_number (answer_of s room) ≡ refusal_of s room
unfolding answer_of
number_is s room = go (refusal_of s room)
  where
    go : (n : ℕ) → answer_number (told_by n s) ≡ n
    go zero = refl
    go (suc n) = refl

-- and where it is 0 the bytes are the plan's
pub bytes_are : (s lent : List ℕ) (r : ℕ) (plan : List ℕ) → Answered s lent r plan → r ≡ 0 → plan ≡ plan_for s
unfolding answer_of
bytes_are s lent r plan a e =
    let z : refusal_of s (length lent) ≡ 0 = sym (number_is s (length lent)) ∙ sym a.number ∙ e in
    a.bytes ∙ rw z

or_l : (a b : Bool) → T a → T (a || b)
or_l true b t = tt
or_l false b t = absurd t

or_r : (a b : Bool) → T b → T (a || b)
or_r true b t = tt
or_r false b t = t

module _ (s : List ℕ) (fine : Accepted s) where
  -- ---- reading the plan gives the outcome back
  pub plan_back : ((i : ℕ) → get_or s i 0 < 256) → read_plan s (plan_for s) ≡ outcome_of s
  unfolding plan_for plan_of
  plan_back small = told_back s (outcome_of s) _ fine small (rounds_few s) (outcome_right_lem s) (reason_of s)

  -- ---- once
  stop_once : (i : ℕ) → depots_of s ≤ i → i < rows_of s → one (is_stop s i) ≡ 1
  stop_once i l h = rw (le-leb (depots_of s) i l, lt-ltb i (rows_of s) h)

  plan_right_lem : ((i : ℕ) → get_or s i 0 < 256) → T (plan_taken s (plan_for s))
  unfolding plan_for plan_of
  plan_right_lem small = told_taken s (outcome_of s) _ fine small (rounds_few s) (outcome_right_lem s) (reason_of s) (λ row. omega (arith, reason_range s row))

  pub stands : ((i : ℕ) → get_or s i 0 < 256) → Standing s (plan_for s)
  stands small = record { each = λ i l h. rw (plan_back small) (once s i ∙ stop_once i l h); right = plan_right_lem small }

  -- ---- feasible
  -- a round's stops are stops, and no more than there are
  pub record Right (r : Round) : Type 0 where
    pub links : T (links_right s r.stops)
    pub few : length r.stops ≤ rows_of s - depots_of s

  rounds_right_lem : (rs : List Round) (aside : List ℕ) → T (links_right s (chains rs aside)) → length (chains rs aside) ≤ rows_of s - depots_of s → Every Right rs
  unfolding chains
  rounds_right_lem [] aside t l = tt
  rounds_right_lem (r ∷ rs) aside t l =
      let e = length-append r.stops (chains rs aside) in
      (record { links = links_front s r.stops (chains rs aside) t; few = omega arith }, rounds_right_lem rs aside (links_back s r.stops (chains rs aside) t) (omega arith))

  all_few : length (stops_of (outcome_of s)) ≡ rows_of s - depots_of s
  all_few = same_length (stops_of (outcome_of s)) (all_stops s) (λ x. once s x ∙ sym (all_once s x)) ∙ those_all (rows_of s - depots_of s) (depots_of s)

  pub all_right : Every Right (outcome_of s).rounds
  all_right = rounds_right_lem (outcome_of s).rounds (outcome_of s).aside (links_right_lem s) (omega (arith, all_few))

  pub load_same : (is : List ℕ) → load_n s is ≡ load_of s is
  unfolding load_n load_of
  load_same [] = refl
  load_same (i ∷ is) = ap (λ (n : ℕ). demand_of s i + n) (load_same is)

  -- a round that a depot made, feasible for its vehicle
  record Driven (r : Round) : Type 0 where
    known : r.vehicle < vehicles_of s
    feasible : FeasibleRound s r

  -- a round of depot d keeps what is promised
  record Sound (d : ℕ) (r : Round) : Type 0 where
    feasible : (method_of s ≡ 2 → ⊥) → T (passes s d r.vehicle r.stops)
    capacity : T (capacity_kept s r)

  driven_from : (d : ℕ) (r : Round) → RoundFrom s d r → Sound d r → Driven r
  unfolding vehicle_of
  driven_from d r f u = record {
    known = f.vehicle;
    feasible = record {
      some = f.some;
      capacity = u.capacity;
      feasible = λ n. subst (λ (d : ℕ). T (passes s d r.vehicle r.stops)) (sym f.home) (u.feasible n);
    };
  }

  -- what is carried is kept; of the savings a lone stop is
  carried_kept : (r : Round) → load_of s r.stops ≤ (vehicle_of s r.vehicle).capacity → T (capacity_kept s r)
  unfolding keeps_capacity vehicle_of
  carried_kept r h = or_l (keeps_capacity s r.vehicle r.stops) _ (le→leb (load_n s r.stops) _ (rw (load_same r.stops) h))

  lone_kept : method_of s ≡ 0 → (r : Round) → length r.stops ≡ 1 → T (capacity_kept s r)
  lone_kept e r h = or_r (keeps_capacity s r.vehicle r.stops) _ (rw (e, h) tt)

  feasible_sound : (d : ℕ) (r : Round) → Feasible s d r → Sound d r
  feasible_sound d r u = record { feasible = λ n. u.feasible; capacity = carried_kept r u.carried.capacity }

  all_sound : (d : ℕ) (rs : List Round) → Every (Feasible s d) rs → Every (Sound d) rs
  all_sound d = every_map (Feasible s d) (Sound d) (feasible_sound d)

  saved_sound : (d v : ℕ) → method_of s ≡ 0 → (r : Round) → Saved s d v r → Sound d r
  saved_sound d v e r u = record {
    feasible = λ n. subst (λ (w : ℕ). T (passes s d w r.stops)) (sym u.vehicle) u.feasible;
    capacity = go (ltb 1 (length r.stops)) refl;
  }
    where
      go : (b : Bool) → ltb 1 (length r.stops) ≡ b → T (capacity_kept s r)
      go true h = carried_kept r (subst (λ (w : ℕ). load_of s r.stops ≤ (vehicle_of s w).capacity) (sym u.vehicle) (u.capacity (ltb-true 1 (length r.stops) h)))
      go false h = lone_kept e r (omega (arith, ltb-false 1 (length r.stops) h, u.some))

  -- a depot is a row, where there is a stop at all
  home_row : (d : ℕ) (rows : List ℕ) → d < depots_of s → 0 < length rows → T (links_right s rows) → d < rows_of s
  home_row d rows h l t = omega (arith, (links_at s rows 0 l t).0, (links_at s rows 0 l t).1)

  -- without members there is no round
  none_sound : (d : ℕ) (fleet : List ℕ) → Every (Sound d) (nearest_neighbor_tw s d [] fleet).rounds
  unfolding nearest_neighbor_tw greedy extend_on
  none_sound d fleet = go fleet
    where
      go : (fleet : List ℕ) → Every (Sound d) (greedy (window_rule s d (has_soft_windows s d [])) d fleet []).rounds
      go [] = tt
      go (v ∷ vs) = go vs

  window_sound : (d : ℕ) → d < depots_of s → (members : List ℕ) → T (links_right s members) → length members ≤ rows_of s → Every (Sound d) (nearest_neighbor_tw s d members (fleet_of s d)).rounds
  window_sound d h [] t l = none_sound d (fleet_of s d)
  window_sound d h (i ∷ is) t l =
      let members = i ∷ is in
      let ok : Routed s d members = record { sheet = fine; home = home_row d members h (zero-lt-suc (length is)) t; few = omega (arith, fine.sized.rows); row = λ k u. (links_at s members k u t).1 } in
      all_sound d (nearest_neighbor_tw s d members (fleet_of s d)).rounds (window_feasible s d members (fleet_of s d) ok)

  nearest_sound : (d : ℕ) (members : List ℕ) → method_of s ≡ 2 → Every (Sound d) (nearest_neighbor s d members (fleet_of s d)).rounds
  nearest_sound d members e = every_map (Carried s) (Sound d) (λ r u. record { feasible = λ n. absurd (n e); capacity = carried_kept r u.capacity }) (nearest_neighbor s d members (fleet_of s d)).rounds (nearest_carried s d members (fleet_of s d))

  savings_sound : (d v : ℕ) (members : List ℕ) → method_of s ≡ 0 → Every (Sound d) (clarke_wright s d v members).rounds
  savings_sound d v members e = every_map (Saved s d v) (Sound d) (saved_sound d v e) (clarke_wright s d v members).rounds (savings_saved s d v members)

  first_sound : (d : ℕ) (members fleet : List ℕ) → Every (Sound d) (with_first s d members fleet).rounds
  unfolding with_vehicle
  first_sound d members [] = tt
  first_sound d members (v ∷ fleet) = go (eqb (method_of s) 0) refl (eqb (method_of s) 1)
    where
      go : (a : Bool) → eqb (method_of s) 0 ≡ a → (b : Bool) → Every (Sound d) (cond a (clarke_wright s d v members) (cond b (solomon_i1 s d v members) (sweep s d v members))).rounds
      go true e b = savings_sound d v members (eqb-true (method_of s) 0 e)
      go false e true = all_sound d (solomon_i1 s d v members).rounds (insertion_feasible s d v members)
      go false e false = all_sound d (sweep s d v members).rounds (sweep_feasible s d v members)

  constructs_sound : (d : ℕ) → d < depots_of s → (members : List ℕ) → T (links_right s members) → length members ≤ rows_of s → Every (Sound d) (construct_of s d members (fleet_of s d)).rounds
  unfolding construct_of
  constructs_sound d h members t l = go (eqb (method_of s) 2) refl (eqb (method_of s) 3)
    where
      go : (a : Bool) → eqb (method_of s) 2 ≡ a → (b : Bool)
          → Every (Sound d) (cond a (nearest_neighbor s d members (fleet_of s d)) (cond b (nearest_neighbor_tw s d members (fleet_of s d)) (with_first s d members (fleet_of s d)))).rounds
      go true e b = nearest_sound d members (eqb-true (method_of s) 2 e)
      go false e true = window_sound d h members t l
      go false e false = first_sound d members (fleet_of s d)

  all_driven : Every Driven (outcome_of s).rounds
  all_driven = rounds_every s Driven (λ d h members t l. every_both (RoundFrom s d) (Sound d) Driven (driven_from d) (construct_of s d members (fleet_of s d)).rounds (constructs_from s d members) (constructs_sound d h members t l))

  pub feasible_rounds : ((i : ℕ) → get_or s i 0 < 256) → Every (FeasibleRound s) (read_plan s (plan_for s)).rounds
  feasible_rounds small = rw (plan_back small) (every_map Driven (FeasibleRound s) (λ r f. f.feasible) (outcome_of s).rounds all_driven)

  -- ---- lawful
  lawful_round : Whole s → (method_of s ≡ 2 → ⊥) → (r : Round) → Right r → Driven r → LawfulRound s r
  unfolding keeps_capacity vehicle_of
  lawful_round whole n r u f = record {
    schedule = subst T (feasible_lawful s r.vehicle r.stops whole f.known (record { sheet = fine; home = home_row (home_of s r.vehicle) r.stops (fine.vehicle r.vehicle f.known).depot f.feasible.some u.links; few = omega (arith, u.few, fine.sized.rows); row = λ k h. (links_at s r.stops k h u.links).1 })) (f.feasible.feasible n);
    capacity = f.feasible.capacity;
  }

  pub lawful_rounds : ((i : ℕ) → get_or s i 0 < 256) → Whole s → (method_of s ≡ 2 → ⊥) → Every (LawfulRound s) (read_plan s (plan_for s)).rounds
  lawful_rounds small whole n = rw (plan_back small) (every_both Right Driven (LawfulRound s) (lawful_round whole n) (outcome_of s).rounds all_right all_driven)
