-- Every member stands in the outcome as often as among the members: on one round or set aside. So no stop is left unrouted. Assumes nothing.
use Rattle.std.specs.Prelude.{◌≡◌, refl, ℕ, ◌+◌, ◌≤◌, List, [], ◌∷◌, eqb, length}
use Rattle.std.proofs.Common.{arith}
use Rattle.lists.specs.Count.{one, count}
use Rattle.lists.specs.Laws.Once.{count_append}
use Rattle.lists.specs.Laws.Moved.{without_count}
use Rattle.constructive.specs.Outcome.{Round, Outcome, chains, stops_of}
use Rattle.constructive.specs.declared.terms.Terms.{Terms}
use Rattle.constructive.specs.Terms.{terms_of}
use Rattle.solomon_i1.specs.Insertion.{seed_of, route_in, plan_on, solomon_i1}
use Rattle.solomon_i1.specs.Laws.Planned.{seed_in, rest_in, round_in, seed_place, round_count, Seeds, planned}

-- a stop more set aside
aside_count : (x row : ℕ) (rounds : List Round) (aside : List ℕ) → count x (chains rounds (row ∷ aside)) ≡ one (eqb x row) + count x (chains rounds aside)
unfolding chains count
aside_count x row [] aside = refl
aside_count x row (r ∷ rs) aside =
    let e = aside_count x row rs aside in
    let a = count_append x r.stops (chains rs (row ∷ aside)) in
    let b = count_append x r.stops (chains rs aside) in
    omega (arith, a, b, e)

module _ (s : List ℕ) (t : Terms) (x : ℕ) where
  abbrev pub Same : List ℕ → Outcome → Type 0
  Same left o = count x (stops_of o) ≡ count x left

  pub seeds_same : Seeds s t Same
  unfolding chains count
  seeds_same = record {
    none = refl;
    aside = λ left h e o same.
        let a = aside_count x (seed_in s t left) o.rounds o.aside in
        let b = without_count left (seed_of s t.depot left) (seed_place s t.depot left h) x in
        omega (arith, a, b, same);
    round = λ left h e o same.
        let a = count_append x (route_in (round_in s t left)) (stops_of o) in
        let b = without_count left (seed_of s t.depot left) (seed_place s t.depot left h) x in
        let c = round_count s t (seed_in s t left) (rest_in s t left) x in
        omega (arith, a, b, c, same);
  }

  pub plan_keeps : (n : ℕ) (left : List ℕ) → length left ≤ n → count x (stops_of (plan_on s t n left)) ≡ count x left
  plan_keeps = planned s t Same seeds_same

-- the outcome's stops are a permutation of the members
pub insertion_keeps : (s : List ℕ) (depot v : ℕ) (members : List ℕ) (x : ℕ) → count x (stops_of (solomon_i1 s depot v members)) ≡ count x members
unfolding solomon_i1
insertion_keeps s depot v members x = plan_keeps s (terms_of s depot v members) x (length members) members (omega arith)
