-- Every member is a stop of a round, or set aside. Assumes nothing.
use Rattle.std.specs.Prelude.{◌≡◌, ℕ, zero, suc, ◌+◌, ◌≤◌, ◌<◌, Bool, set}
use Rattle.std.proofs.Math.Path.{refl}
use Rattle.std.proofs.Common.{sym, ap, ◌∙◌, not-suc-le-zero, le_of_suc-le-suc, arith, length-set, get_or-set_other}
use Rattle.std.proofs.Math.Bool.{true, false}
use mathlib.Core.List.{List, [], ◌∷◌}
use Rattle.std.proofs.Math.ListN.{length, get_or}
use Rattle.constructive.specs.declared.terms.Terms.{Terms}
use Rattle.clarke_wright_savings.specs.declared.terms.Directed.{Directed}
use Rattle.clarke_wright_savings.specs.Savings.{Saving, savings_of, ranked, route_at, starts_alone, lone_route, starts_of, Merge, apart, joined, merge_of, after_merge, no_saving, merged_by, aside_unless, aside_of, routes_of}
use Rattle.clarke_wright_savings.specs.Routes.{Slots}
use Rattle.clarke_wright_savings.specs.Laws.Joined.{Merged, merge_merged}
use Rattle.clarke_wright_slots.specs.Slots.{routed_stops}

stops_set : (routes : List (List ℕ)) (k : ℕ) (route : List ℕ) → k < length routes → routed_stops (set routes k route) + length (route_at routes k) ≡ routed_stops routes + length route
unfolding routed_stops
stops_set [] k route h = absurd (not-suc-le-zero h)
stops_set (r ∷ routes) zero route h = omega arith
stops_set (r ∷ routes) (suc k) route h = let e = stops_set routes k route (le_of_suc-le-suc h) in omega arith

pub stops_joined : (routes : List (List ℕ)) (a b : ℕ) (stops : List ℕ) → Slots routes a b → length stops ≡ length (route_at routes a) + length (route_at routes b)
    → routed_stops (after_merge routes (joined a b stops)) ≡ routed_stops routes
stops_joined routes a b stops u c =
    let d = stops_set routes a stops u.into in
    let e : length (route_at (set routes a stops) b) ≡ length (route_at routes b) = ap length (get_or-set_other routes a b stops [] (λ q. u.differ (sym q))) in
    let f = stops_set (set routes a stops) b [] (omega (arith, length-set routes a stops, u.from)) in
    omega (arith, c, d, e, f)

module _ (s : List ℕ) (t : Terms) where
  after_many : (routes : List (List ℕ)) (m : Merge) → Merged s t (λ (row : ℕ). Unit) routes m → routed_stops (after_merge routes m) ≡ routed_stops routes
  after_many routes apart u = refl
  after_many routes (joined a b stops) u = stops_joined routes a b stops u.slots u.same.long

  pub starts_many : (members : List ℕ) → routed_stops (starts_of s t members) + length (aside_of s t members) ≡ length members
  unfolding starts_of aside_of routed_stops
  starts_many [] = refl
  starts_many (row ∷ rows) = go (starts_alone s t row) (starts_many rows)
    where
      go : (b : Bool) → routed_stops (starts_of s t rows) + length (aside_of s t rows) ≡ length rows
          → length (lone_route b row) + routed_stops (starts_of s t rows) + length (aside_unless b row (aside_of s t rows)) ≡ length (row ∷ rows)
      go true e = omega (arith, e)
      go false e = omega (arith, e)

  -- no more are set aside than there are
  pub aside_few : (members : List ℕ) → length (aside_of s t members) ≤ length members
  aside_few members = omega (arith, starts_many members)

module _ (s : List ℕ) (t : Directed) where
  merged_many : (savings : List Saving) (es : List ℕ) (routes : List (List ℕ)) → routed_stops (merged_by s t savings es routes) ≡ routed_stops routes
  unfolding merged_by
  merged_many savings [] routes = refl
  merged_many savings (e ∷ es) routes =
      let y = get_or savings e no_saving in
      let m = merge_of s t routes y.from y.to in
      merged_many savings es (after_merge routes m) ∙ after_many s t.common routes m (merge_merged s t routes y.from y.to (λ (row : ℕ). Unit))

  pub routes_many : (members : List ℕ) → routed_stops (routes_of s t members) + length (aside_of s t.common members) ≡ length members
  routes_many members =
      let savings = savings_of s t members members in
      let u = t.common in
      ap (λ (n : ℕ). n + length (aside_of s u members)) (merged_many savings (ranked savings) (starts_of s u members)) ∙ starts_many s u members
