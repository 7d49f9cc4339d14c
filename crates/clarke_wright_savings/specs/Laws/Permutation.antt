-- Every member stands in the outcome as often as among the members: on one round or set aside. Assumes nothing.
use Rattle.std.specs.Prelude.{◌≡◌, ℕ, zero, suc, ◌+◌, ◌<◌, Bool, true, false, length, set}
use Rattle.std.proofs.Math.Path.{refl}
use Rattle.std.proofs.Common.{sym, ap, ◌∙◌, not-suc-le-zero, le_of_suc-le-suc, arith, length-set, get_or-set_other}
use mathlib.Core.List.{List, [], ◌∷◌}
use Rattle.std.proofs.Math.ListN.{get_or}
use Rattle.lists.specs.Count.{count}
use Rattle.lists.specs.Laws.Once.{count_append}
use Rattle.constructive.specs.declared.terms.Terms.{Terms}
use Rattle.constructive.specs.Outcome.{chains, stops_of}
use Rattle.clarke_wright_savings.specs.declared.terms.Directed.{Directed}
use Rattle.clarke_wright_savings.specs.Savings.{directed_of, Saving, savings_of, ranked, route_at, starts_alone, lone_route, starts_of, Merge, apart, joined, merge_of, after_merge, no_saving, merged_by, rounds_of, aside_unless, aside_of, routes_of, planned_by, clarke_wright}
use Rattle.clarke_wright_savings.specs.Routes.{Slots, count_in_routes}
use Rattle.clarke_wright_savings.specs.Laws.Joined.{Merged, merge_merged}

-- ---- one merge
counted_set : (x : ℕ) (routes : List (List ℕ)) (k : ℕ) (route : List ℕ) → k < length routes → count_in_routes x (set routes k route) + count x (route_at routes k) ≡ count_in_routes x routes + count x route
unfolding count_in_routes
counted_set x [] k route h = absurd (not-suc-le-zero h)
counted_set x (r ∷ routes) zero route h = omega arith
counted_set x (r ∷ routes) (suc k) route h = let e = counted_set x routes k route (le_of_suc-le-suc h) in omega arith

pub counted_joined : (x : ℕ) (routes : List (List ℕ)) (a b : ℕ) (stops : List ℕ) → Slots routes a b → count x stops ≡ count x (route_at routes a) + count x (route_at routes b)
    → count_in_routes x (after_merge routes (joined a b stops)) ≡ count_in_routes x routes
unfolding count
counted_joined x routes a b stops u c =
    let d = counted_set x routes a stops u.into in
    let e : count x (route_at (set routes a stops) b) ≡ count x (route_at routes b) = ap (count x) (get_or-set_other routes a b stops [] (λ q. u.differ (sym q))) in
    let f = counted_set x (set routes a stops) b [] (omega (arith, length-set routes a stops, u.from)) in
    omega (arith, c, d, e, f)

module _ (s : List ℕ) (t : Directed) (x : ℕ) where
  after_keeps : (routes : List (List ℕ)) (m : Merge) → Merged s t.common (λ (row : ℕ). Unit) routes m → count_in_routes x (after_merge routes m) ≡ count_in_routes x routes
  after_keeps routes apart u = refl
  after_keeps routes (joined a b stops) u = counted_joined x routes a b stops u.slots (u.same.counted x)

  merged_keeps : (savings : List Saving) (es : List ℕ) (routes : List (List ℕ)) → count_in_routes x (merged_by s t savings es routes) ≡ count_in_routes x routes
  unfolding merged_by
  merged_keeps savings [] routes = refl
  merged_keeps savings (e ∷ es) routes =
      let y = get_or savings e no_saving in
      let m = merge_of s t routes y.from y.to in
      merged_keeps savings es (after_merge routes m) ∙ after_keeps routes m (merge_merged s t routes y.from y.to (λ (row : ℕ). Unit))

-- ---- start and end
pub starts_keep : (s : List ℕ) (t : Terms) (x : ℕ) (members : List ℕ) → count_in_routes x (starts_of s t members) + count x (aside_of s t members) ≡ count x members
unfolding starts_of aside_of count_in_routes count
starts_keep s t x [] = refl
starts_keep s t x (row ∷ rows) = go (starts_alone s t row) (starts_keep s t x rows)
  where
    go : (b : Bool) → count_in_routes x (starts_of s t rows) + count x (aside_of s t rows) ≡ count x rows
        → count x (lone_route b row) + count_in_routes x (starts_of s t rows) + count x (aside_unless b row (aside_of s t rows)) ≡ count x (row ∷ rows)
    go true e = omega (arith, e)
    go false e = omega (arith, e)

rounds_keep : (x v : ℕ) (routes : List (List ℕ)) (aside : List ℕ) → count x (chains (rounds_of v routes) aside) ≡ count_in_routes x routes + count x aside
unfolding rounds_of chains count_in_routes count
rounds_keep x v [] aside = omega arith
rounds_keep x v ([] ∷ routes) aside = rounds_keep x v routes aside ∙ omega arith
rounds_keep x v ((row ∷ rows) ∷ routes) aside =
    let e = rounds_keep x v routes aside in
    count_append x (row ∷ rows) (chains (rounds_of v routes) aside) ∙ omega (arith, e)

pub planned_keeps : (s : List ℕ) (t : Directed) (members : List ℕ) (x : ℕ) → count x (stops_of (planned_by s t members)) ≡ count x members
unfolding planned_by
planned_keeps s t members x =
    let savings = savings_of s t members members in
    let u = t.common in
    rounds_keep x u.vehicle (routes_of s t members) (aside_of s u members)
    ∙ ap (λ (n : ℕ). n + count x (aside_of s u members)) (merged_keeps s t x savings (ranked savings) (starts_of s u members))
    ∙ starts_keep s u x members

-- the outcome's stops are a permutation of the members
pub savings_keep : (s : List ℕ) (depot v : ℕ) (members : List ℕ) (x : ℕ) → count x (stops_of (clarke_wright s depot v members)) ≡ count x members
unfolding clarke_wright
savings_keep s depot v members x = planned_keeps s (directed_of s depot v members) members x
