-- Every stop stands in the outcome exactly once, and no other row does. Assumes nothing.
use Rattle.std.specs.Prelude.{◌≡◌, refl, ℕ, zero, suc, ◌+◌, ◌<◌, Bool, true, false, not, ◌&&◌, ◌||◌, cond, List, [], ◌∷◌, ◌++◌, T, leb, ltb, eqb, get_or}
use Rattle.std.proofs.Common.{sym, ap, ◌∙◌, arith, ltb-true, ltb-false, leb-true, leb-false, eqb-true, lt-ltb, le-ltb, le-leb}
use Rattle.std.proofs.lemmas.Bool.{eqb-false}
use Rattle.lists.specs.Count.{one, count}
use Rattle.lists.specs.Laws.Count.{stop_counted}
use Rattle.lists.specs.Laws.Once.{count_append}
use Rattle.numbers.specs.Laws.All.{all_of}
use Rattle.sheet.specs.Fields.{rows_of, method_of}
use Rattle.sheet.specs.Depots.{depots_of}
use Rattle.sheet.specs.Stops.{is_stop, stops_with, all_stops}
use Rattle.sheet.specs.Laws.Stops.{stops_count, all_once}
use Rattle.sheet.specs.Fleet.{fleet_of}
use Rattle.constructive.specs.Outcome.{Outcome, chains, stops_of}
use Rattle.constructive.specs.Right.{links_right, each_once}
use Rattle.constructive.specs.Laws.Right.{links_of}
use Rattle.constructive.specs.Laws.Stored.{chains_append, count_chains}
use Rattle.constructive.specs.Members.{members_of}
use Rattle.nearest_neighbor.specs.Nearest.{nearest_neighbor, nearest_neighbor_tw}
use Rattle.nearest_neighbor.specs.Laws.Permutation.{nearest_keeps, window_keeps}
use Rattle.clarke_wright_savings.specs.Savings.{clarke_wright}
use Rattle.clarke_wright_savings.specs.Laws.Permutation.{savings_keep}
use Rattle.solomon_i1.specs.Insertion.{solomon_i1}
use Rattle.solomon_i1.specs.Laws.Permutation.{insertion_keeps}
use Rattle.sweep.specs.Sweep.{sweep}
use Rattle.sweep.specs.Laws.Permutation.{sweep_keeps}
use Rattle.multi_depot_offers.specs.ByDepot.{is_no_depot, with_vehicle, with_first, construct_of, outcomes_joined, planned_of, planned_upto, planned_at, left_out, gathered, by_depot, settled_at, outcome_of}

-- ---- a constructor, whichever
vehicle_keeps : (s : List ℕ) (d : ℕ) (members : List ℕ) (v x : ℕ) → count x (stops_of (with_vehicle s d members v)) ≡ count x members
unfolding with_vehicle
vehicle_keeps s d members v x = go (eqb (method_of s) 0) (eqb (method_of s) 1)
  where
    go : (a b : Bool) → count x (stops_of (cond a (clarke_wright s d v members) (cond b (solomon_i1 s d v members) (sweep s d v members)))) ≡ count x members
    go true b = savings_keep s d v members x
    go false true = insertion_keeps s d v members x
    go false false = sweep_keeps s d v members x

first_keeps : (s : List ℕ) (d : ℕ) (members fleet : List ℕ) (x : ℕ) → count x (stops_of (with_first s d members fleet)) ≡ count x members
unfolding chains
first_keeps s d members [] x = refl
first_keeps s d members (v ∷ fleet) x = vehicle_keeps s d members v x

pub constructs_keep : (s : List ℕ) (d : ℕ) (members fleet : List ℕ) (x : ℕ) → count x (stops_of (construct_of s d members fleet)) ≡ count x members
unfolding construct_of
constructs_keep s d members fleet x = go (eqb (method_of s) 2) (eqb (method_of s) 3)
  where
    go : (a b : Bool) → count x (stops_of (cond a (nearest_neighbor s d members fleet) (cond b (nearest_neighbor_tw s d members fleet) (with_first s d members fleet)))) ≡ count x members
    go true b = nearest_keeps s d members fleet x
    go false true = window_keeps s d members fleet x
    go false false = first_keeps s d members fleet x

pub planned_keeps : (s : List ℕ) (d : ℕ) (members : List ℕ) (x : ℕ) → count x (stops_of (planned_of s d members)) ≡ count x members
unfolding planned_of chains
planned_keeps s d [] x = refl
planned_keeps s d (c ∷ cs) x = constructs_keep s d (c ∷ cs) (fleet_of s d) x

-- ---- the depots, one after another
joined_count : (o p : Outcome) (x : ℕ) → count x (stops_of (outcomes_joined o p)) ≡ count x (stops_of o) + count x (stops_of p)
joined_count o p x =
    ap (count x) (chains_append o.rounds p.rounds (o.aside ++ p.aside))
    ∙ omega (arith, count_chains x o.rounds (chains p.rounds (o.aside ++ p.aside)), count_chains x p.rounds (o.aside ++ p.aside), count_append x o.aside p.aside, count_chains x o.rounds o.aside, count_chains x p.rounds p.aside)

pub one_more : (b : Bool) (a n : ℕ) → one (b && ltb a n) + one (b && eqb a n) ≡ one (b && ltb a (suc n))
one_more false a n = refl
one_more true a n = go (ltb a n) (eqb a n) refl refl
  where
    go : (t u : Bool) → ltb a n ≡ t → eqb a n ≡ u → one t + one u ≡ one (ltb a (suc n))
    go true true e f = absurd (let h = ltb-true a n e in let k = eqb-true a n f in omega arith)
    go true false e f = let h = ltb-true a n e in rw (lt-ltb a (suc n) (omega arith))
    go false true e f = let k = eqb-true a n f in rw (lt-ltb a (suc n) (omega arith))
    go false false e f = let h = ltb-false a n e in rw (le-ltb a (suc n) (omega (arith, eqb-false a n f)))

and_none : (b : Bool) (a : ℕ) → 0 ≡ one (b && ltb a 0)
and_none true a = rw (le-ltb a 0 (omega arith))
and_none false a = refl

pub upto_count : (s at : List ℕ) (n x : ℕ) → count x (stops_of (planned_upto s at n)) ≡ one (is_stop s x && ltb (get_or at x 0) n)
unfolding planned_upto chains count members_of
upto_count s at zero x = and_none (is_stop s x) (get_or at x 0)
upto_count s at (suc n) x =
    omega (arith, joined_count (planned_upto s at n) (planned_of s n (members_of s at n)) x, upto_count s at n x, planned_keeps s n (members_of s at n) x, stops_count s (λ c. eqb (get_or at c 0) n) x, one_more (is_stop s x) (get_or at x 0) n)

-- ---- the outcome
-- on a round or turned down by its depot, or no depot's: set aside or not, it stands there once
settles_once : (stop unassigned : Bool) (routed aside : ℕ) → routed + aside ≡ one (stop && not unassigned) → routed + one (stop && (unassigned || ltb 0 aside)) ≡ one stop
settles_once false unassigned routed aside e = omega arith
settles_once true true routed aside e = omega arith
settles_once true false routed aside e = go (ltb 0 aside) refl
  where
    go : (b : Bool) → ltb 0 aside ≡ b → routed + one b ≡ 1
    go true f = let h = ltb-true 0 aside f in omega arith
    go false f = let h = ltb-false 0 aside f in omega arith

unassigned_not : (d n : ℕ) → ltb d n ≡ not (leb n d)
unassigned_not d n = go (leb n d) refl
  where
    go : (b : Bool) → leb n d ≡ b → ltb d n ≡ not b
    go true e = le-ltb d n (leb-true n d e)
    go false e = lt-ltb d n (leb-false n d e)

pub gathered_once : (s at : List ℕ) (x : ℕ) → count x (stops_of (gathered s at)) ≡ one (is_stop s x)
unfolding gathered
gathered_once s at x =
    let o = planned_at s at in
    let e : count x (chains o.rounds []) + count x o.aside ≡ one (is_stop s x && not (is_no_depot s (get_or at x 0))) =
    sym (count_chains x o.rounds o.aside) ∙ upto_count s at (depots_of s) x ∙ ap (λ (b : Bool). one (is_stop s x && b)) (unassigned_not (get_or at x 0) (depots_of s)) in
    count_chains x o.rounds (stops_with s (left_out s at o.aside))
    ∙ ap (λ (n : ℕ). count x (chains o.rounds []) + n) (stops_count s (left_out s at o.aside) x)
    ∙ settles_once (is_stop s x) (is_no_depot s (get_or at x 0)) (count x (chains o.rounds [])) (count x o.aside) e

pub once : (s : List ℕ) (x : ℕ) → count x (stops_of (outcome_of s)) ≡ one (is_stop s x)
unfolding outcome_of by_depot
once s x = go (eqb (depots_of s) 1)
  where
    go : (b : Bool) → count x (stops_of (cond b (planned_of s 0 (all_stops s)) (by_depot s))) ≡ one (is_stop s x)
    go true = planned_keeps s 0 (all_stops s) x ∙ all_once s x
    go false = gathered_once s (settled_at s) x

-- ---- as refusal 10 asks of a plan
pub links_right_lem : (s : List ℕ) → T (links_right s (stops_of (outcome_of s)))
links_right_lem s = links_of s (stops_of (outcome_of s)) (λ x h. stop_counted (is_stop s x) (omega (arith, once s x)))

pub each_once_lem : (s : List ℕ) → T (each_once s (stops_of (outcome_of s)))
unfolding each_once
each_once_lem s = all_of (λ i. ltb i (depots_of s) || eqb (count i (stops_of (outcome_of s))) 1) (rows_of s) (λ i h. go i h (ltb i (depots_of s)) refl)
  where
    go : (i : ℕ) → i < rows_of s → (b : Bool) → ltb i (depots_of s) ≡ b → T (b || eqb (count i (stops_of (outcome_of s))) 1)
    go i h true e = tt
    go i h false e =
        let l = ltb-false i (depots_of s) e in
        let c : count i (stops_of (outcome_of s)) ≡ 1 = once s i ∙ rw (le-leb (depots_of s) i l, lt-ltb i (rows_of s) h) in
        rw c tt
