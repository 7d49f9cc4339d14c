-- A merge joins the stops of two different rounds, within capacity, and feasible where that is checked. So what each merge keeps, all rounds have. Assumes nothing.
use Rattle.std.specs.Prelude.{◌≡◌, ℕ, zero, suc, ◌+◌, ◌≤◌, ◌<◌, Bool, true, false, not, ◌&&◌, ◌||◌, cond, T, leb, eqb, length, set}
use Rattle.std.proofs.Common.{sym, ap, ◌∙◌, suc-le-suc, zero-lt-suc, arith, leb→le, length-append}
use mathlib.Core.List.{List, [], ◌∷◌, ◌++◌, reverse, reverse_aux}
use Rattle.std.proofs.Math.ListN.{get_or}
use Rattle.std.proofs.lemmas.List.{length-reverse}
use Rattle.std.specs.Float.Ieee.Fits.{and_l, and_r}
use Rattle.std.proofs.Math.Facts.{eqb_no}
use Rattle.lists.specs.Count.{count}
use Rattle.lists.specs.Laws.Once.{count_append}
use Rattle.lists.specs.Every.{Every}
use Rattle.lists.specs.Laws.Every.{every_at, every_append}
use Rattle.evaluation.specs.Feasible.{route_feasible}
use Rattle.constructive.specs.declared.terms.Terms.{Terms}
use Rattle.constructive.specs.Load.{load_of}
use Rattle.constructive.specs.Laws.Load.{load_append}
use Rattle.clarke_wright_savings.specs.declared.terms.Directed.{Directed}
use Rattle.clarke_wright_savings.specs.Savings.{Saving, route_at, slot_of, first_is, last_is, Merge, apart, joined, joining, only_if, may_join, merge_too_dear, merge_passes, merge_of, after_merge, no_saving, merged_by}
use Rattle.clarke_wright_savings.specs.Routes.{Slots}

-- ---- a round reversed has the same stops
count_onto : (x : ℕ) (xs ys : List ℕ) → count x (reverse_aux xs ys) ≡ count x xs + count x ys
unfolding count
count_onto x [] ys = omega arith
count_onto x (y ∷ xs) ys = let e = count_onto x xs (y ∷ ys) in omega arith

pub count_reverse : (x : ℕ) (xs : List ℕ) → count x (reverse xs) ≡ count x xs
unfolding count
count_reverse x xs = count_onto x xs [] ∙ omega arith

load_onto : (s xs ys : List ℕ) → load_of s (reverse_aux xs ys) ≡ load_of s xs + load_of s ys
unfolding load_of
load_onto s [] ys = omega arith
load_onto s (y ∷ xs) ys = let e = load_onto s xs (y ∷ ys) in omega arith

pub load_reverse : (s xs : List ℕ) → load_of s (reverse xs) ≡ load_of s xs
unfolding load_of
load_reverse s xs = load_onto s xs [] ∙ omega arith

every_onto : (P : ℕ → Type 0) (xs ys : List ℕ) → Every P xs → Every P ys → Every P (reverse_aux xs ys)
every_onto P [] ys e f = f
every_onto P (x ∷ xs) ys e f = every_onto P xs (x ∷ ys) e.1 (e.0, f)

pub every_reverse : (P : ℕ → Type 0) (xs : List ℕ) → Every P xs → Every P (reverse xs)
every_reverse P xs e = every_onto P xs [] e tt

-- the stops of two rounds, with what holds of each of them
pub record JoinedStops (s : List ℕ) (P : ℕ → Type 0) (into from stops : List ℕ) : Type 0 where
  pub counted : (x : ℕ) → count x stops ≡ count x into + count x from
  pub load : load_of s stops ≡ load_of s into + load_of s from
  pub long : length stops ≡ length into + length from
  pub every : Every P into → Every P from → Every P stops

pub record Joined (s : List ℕ) (t : Terms) (P : ℕ → Type 0) (routes : List (List ℕ)) (a b : ℕ) (stops : List ℕ) : Type 0 where
  pub slots : Slots routes a b
  pub same : JoinedStops s P (route_at routes a) (route_at routes b) stops
  pub carried : load_of s stops ≤ t.capacity

abbrev pub Merged : (s : List ℕ) (t : Terms) (P : ℕ → Type 0) (routes : List (List ℕ)) → Merge → Type 0
Merged s t P routes apart = Unit
Merged s t P routes (joined a b stops) = Joined s t P routes a b stops

-- a round may stand: nothing is checked, or it is feasible
abbrev pub RoutesKept : List ℕ → Terms → List ℕ → Type 0
RoutesKept s t stops = T (not t.constrained || route_feasible s t.depot t.limits stops)

abbrev pub RouteKept : List ℕ → Terms → Merge → Type 0
RouteKept s t apart = Unit
RouteKept s t (joined a b stops) = RoutesKept s t stops

-- ---- a slot with stops is one
inside : (routes : List (List ℕ)) (k : ℕ) → 0 < length (route_at routes k) → k < length routes
inside [] k h = absurd (omega (arith, h))
inside (route ∷ routes) zero h = zero-lt-suc (length routes)
inside (route ∷ routes) (suc k) h = suc-le-suc (inside routes k h)

first_inside : (routes : List (List ℕ)) (k x : ℕ) → T (first_is x (route_at routes k)) → k < length routes
first_inside routes k x h = inside routes k (some (route_at routes k) h)
  where
    some : (route : List ℕ) → T (first_is x route) → 0 < length route
    some [] h = absurd h
    some (row ∷ rows) h = zero-lt-suc (length rows)

last_inside : (routes : List (List ℕ)) (k x : ℕ) → T (last_is x (route_at routes k)) → k < length routes
last_inside routes k x h = inside routes k (some (route_at routes k) h)
  where
    some : (route : List ℕ) → T (last_is x route) → 0 < length route
    some [] h = absurd h
    some (row ∷ rows) h = zero-lt-suc (length rows)

-- ---- the ways of joining
module _ (s : List ℕ) (P : ℕ → Type 0) (into from : List ℕ) where
  end_to_end : JoinedStops s P into from (into ++ from)
  end_to_end = record { counted = λ x. count_append x into from; load = load_append s into from; long = length-append into from; every = every_append P into from }

  back_after : JoinedStops s P into from (into ++ reverse from)
  back_after = record {
    counted = λ x. count_append x into (reverse from) ∙ ap (λ (n : ℕ). count x into + n) (count_reverse x from);
    load = load_append s into (reverse from) ∙ ap (λ (n : ℕ). load_of s into + n) (load_reverse s from);
    long = length-append into (reverse from) ∙ ap (λ (n : ℕ). length into + n) (length-reverse from);
    every = λ e f. every_append P into (reverse from) e (every_reverse P from f);
  }

  back_before : JoinedStops s P into from (reverse into ++ from)
  back_before = record {
    counted = λ x. count_append x (reverse into) from ∙ ap (λ (n : ℕ). n + count x from) (count_reverse x into);
    load = load_append s (reverse into) from ∙ ap (λ (n : ℕ). n + load_of s from) (load_reverse s into);
    long = length-append (reverse into) from ∙ ap (λ (n : ℕ). n + length from) (length-reverse into);
    every = λ e f. every_append P (reverse into) from (every_reverse P into e) f;
  }

either : (M : Merge → Type 0) (c : Bool) (m n : Merge) → (T c → M m) → M n → M (cond c m n)
either M true m n f g = f tt
either M false m n f g = g

if_so : (M : Merge → Type 0) (c : Bool) (m : Merge) → M apart → (T c → M m) → M (only_if c m)
if_so M true m f g = g tt
if_so M false m f g = f

module _ (s : List ℕ) (t : Terms) (P : ℕ → Type 0) (routes : List (List ℕ)) (i j a b : ℕ) where
  abbrev ri : List ℕ
  ri = route_at routes a

  abbrev rj : List ℕ
  rj = route_at routes b

  joining_merged : (directed : Bool) → T (may_join s t a b ri rj) → Merged s t P routes (joining directed i j a b ri rj)
  joining_merged directed h =
      let c = t.capacity in
      let n = eqb_no {a = a} {b = b} (and_l (not (eqb a b)) (leb (load_of s ri + load_of s rj) c) h) in
      let l = leb→le (load_of s ri + load_of s rj) c (and_r (not (eqb a b)) (leb (load_of s ri + load_of s rj) c) h) in
      let M = Merged s t P routes in
      let along : a < length routes → b < length routes → (stops : List ℕ) → JoinedStops s P ri rj stops → Joined s t P routes a b stops
      = λ A B stops k. record { slots = record { differ = n; into = A; from = B }; same = k; carried = omega (arith, l, k.load) } in
      let against : a < length routes → b < length routes → (stops : List ℕ) → JoinedStops s P rj ri stops → Joined s t P routes b a stops
      = λ A B stops k. record { slots = record { differ = λ e. n (sym e); into = B; from = A }; same = k; carried = omega (arith, l, k.load) } in
      either M (last_is i ri && first_is j rj) (joined a b (ri ++ rj)) _
      (λ u. along (last_inside routes a i (and_l (last_is i ri) (first_is j rj) u)) (first_inside routes b j (and_r (last_is i ri) (first_is j rj) u)) (ri ++ rj) (end_to_end s P ri rj))
      (either M directed apart _ (λ u. tt)
      (either M (last_is j rj && first_is i ri) (joined b a (rj ++ ri)) _
      (λ u. against (first_inside routes a i (and_r (last_is j rj) (first_is i ri) u)) (last_inside routes b j (and_l (last_is j rj) (first_is i ri) u)) (rj ++ ri) (end_to_end s P rj ri))
      (either M (last_is i ri && last_is j rj) (joined a b (ri ++ reverse rj)) _
      (λ u. along (last_inside routes a i (and_l (last_is i ri) (last_is j rj) u)) (last_inside routes b j (and_r (last_is i ri) (last_is j rj) u)) (ri ++ reverse rj) (back_after s P ri rj))
      (either M (first_is i ri && first_is j rj) (joined a b (reverse ri ++ rj)) apart
      (λ u. along (first_inside routes a i (and_l (first_is i ri) (first_is j rj) u)) (first_inside routes b j (and_r (first_is i ri) (first_is j rj) u)) (reverse ri ++ rj) (back_before s P ri rj))
      tt))))

-- a merge that passes may stand
passed : (s : List ℕ) (t : Terms) (routes : List (List ℕ)) (m : Merge) → T (merge_passes s t routes m) → RouteKept s t m
unfolding merge_passes
passed s t routes apart h = tt
passed s t routes (joined a b stops) h =
    or_and (not t.constrained) (route_feasible s t.depot t.limits stops) (not (merge_too_dear s t (route_at routes a) (route_at routes b) stops)) h
  where
    or_and : (x y z : Bool) → T (x || (y && z)) → T (x || y)
    or_and true y z h = tt
    or_and false y z h = and_l y z h

module _ (s : List ℕ) (t : Directed) (routes : List (List ℕ)) (i j : ℕ) where
  pub merge_merged : (P : ℕ → Type 0) → Merged s t.common P routes (merge_of s t routes i j)
  unfolding merge_of
  merge_merged P =
      let u = t.common in
      let a = slot_of i routes in
      let b = slot_of j routes in
      let m = joining t.directed i j a b (route_at routes a) (route_at routes b) in
      let n = only_if (may_join s u a b (route_at routes a) (route_at routes b)) m in
      if_so (Merged s u P routes) (merge_passes s u routes n) n tt
      (λ _. if_so (Merged s u P routes) (may_join s u a b (route_at routes a) (route_at routes b)) m tt (joining_merged s u P routes i j a b t.directed))

  pub merge_stands : RouteKept s t.common (merge_of s t routes i j)
  unfolding merge_of
  merge_stands =
      let u = t.common in
      let a = slot_of i routes in
      let b = slot_of j routes in
      let n = only_if (may_join s u a b (route_at routes a) (route_at routes b)) (joining t.directed i j a b (route_at routes a) (route_at routes b)) in
      if_so (RouteKept s u) (merge_passes s u routes n) n tt (passed s u routes n)

-- ---- what every merge keeps
pub every_set : (Q : List ℕ → Type 0) (routes : List (List ℕ)) (k : ℕ) (route : List ℕ) → Q route → Every Q routes → Every Q (set routes k route)
every_set Q [] k route q e = e
every_set Q (r ∷ routes) zero route q e = (q, e.1)
every_set Q (r ∷ routes) (suc k) route q e = (e.0, every_set Q routes k route q e.1)

-- of a round without stops, and of one that a merge makes of two
pub record Keeps (s : List ℕ) (t : Terms) (P : ℕ → Type 0) (Q : List ℕ → Type 0) : Type 0 where
  pub none : Q []
  pub joins : (into from stops : List ℕ) → JoinedStops s P into from stops → load_of s stops ≤ t.capacity → RoutesKept s t stops → Q into → Q from → Q stops

module _ (s : List ℕ) (t : Directed) (P : ℕ → Type 0) (Q : List ℕ → Type 0) (k : Keeps s t.common P Q) where
  after_every : (routes : List (List ℕ)) (m : Merge) → Merged s t.common P routes m → RouteKept s t.common m → Every Q routes → Every Q (after_merge routes m)
  after_every routes apart u v e = e
  after_every routes (joined a b stops) u v e =
      every_set Q (set routes a stops) b [] k.none
      (every_set Q routes a stops
      (k.joins (route_at routes a) (route_at routes b) stops u.same u.carried v (every_at Q [] routes a u.slots.into e) (every_at Q [] routes b u.slots.from e))
      e)

  pub merged_every : (savings : List Saving) (es : List ℕ) (routes : List (List ℕ)) → Every Q routes → Every Q (merged_by s t savings es routes)
  unfolding merged_by
  merged_every savings [] routes e = e
  merged_every savings (n ∷ es) routes e =
      let x = get_or savings n no_saving in
      let m = merge_of s t routes x.from x.to in
      merged_every savings es (after_merge routes m) (after_every routes m (merge_merged s t routes x.from x.to P) (merge_stands s t routes x.from x.to) e)
