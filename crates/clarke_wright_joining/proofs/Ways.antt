-- The ways of joining two rounds, as the definition of a merge and as the code have them. Assumes nothing.
use Rattle.std.specs.Prelude.{Some, None}
use mathlib.Core.Path.{◌≡◌, refl, sym, ap, ◌∙◌}
use Prim.Native.Nat.{ℕ, ◌-◌, ◌<◌}
use native.Mathlib.Omega.{arith}
use mathlib.Core.Bool.{Bool, true, false, ◌&&◌, cond}
use mathlib.Core.List.{List, [], ◌∷◌, ◌++◌, reverse}
use lib.Dec.{eqb}
use lib.ListN.{length, get_or, length-append, length-reverse}
use Rattle.lists.specs.Fold.{last_of}
use Rattle.lists.specs.Count.{count}
use Rattle.lists.specs.Laws.Once.{count_append}
use Rattle.lists.specs.Every.{Every}
use Rattle.lists.specs.Laws.Every.{every_append}
use Rattle.constructive.specs.Load.{load_of}
use Rattle.constructive.specs.Laws.Load.{load_append}
use Rattle.clarke_wright_savings.specs.Savings.{route_at, first_is, last_is, apart, joined, joining}
use Rattle.clarke_wright_savings.specs.Routes.{Slots}
use Rattle.clarke_wright_savings.specs.Laws.Joined.{JoinedStops, count_reverse, load_reverse, every_reverse}
use Rattle.clarke_wright_slots.specs.Slots.{or_reversed, end_to_end}
use Rattle.clarke_wright_joining.specs.Ways.{meant, way_of, WaySlots}

-- ---- a round's first and last stop
pub first_at : (x : ℕ) (route : List ℕ) → 0 < length route → eqb (get_or route 0 0) x ≡ first_is x route
first_at x [] h = absurd (omega arith)
first_at x (row ∷ rows) h = refl

last_of_lem : (row : ℕ) (rows : List ℕ) → get_or (row ∷ rows) (length rows) 0 ≡ last_of row rows
unfolding last_of
last_of_lem row [] = refl
last_of_lem row (next ∷ rows) = last_of_lem next rows

pub last_at : (x : ℕ) (route : List ℕ) → 0 < length route → eqb (get_or route (length route - 1) 0) x ≡ last_is x route
last_at x [] h = absurd (omega arith)
last_at x (row ∷ rows) h = let e : length (row ∷ rows) - 1 ≡ length rows = omega arith in
    ap (λ (n : ℕ). eqb (get_or (row ∷ rows) n 0) x) e ∙ ap (λ (n : ℕ). eqb n x) (last_of_lem row rows)

-- ---- what a way means
module _ (routes : List (List ℕ)) (a b : ℕ) where
  abbrev ri : List ℕ
  ri = route_at routes a

  abbrev rj : List ℕ
  rj = route_at routes b

  pub joining_meant : (directed : Bool) (i j : ℕ) → joining directed i j a b ri rj ≡ meant routes (way_of directed (first_is i ri) (last_is i ri) (first_is j rj) (last_is j rj) a b)
  joining_meant directed i j = go (last_is i ri && first_is j rj) directed (last_is j rj && first_is i ri) (last_is i ri && last_is j rj) (first_is i ri && first_is j rj)
    where
      go : (along one_way against last first : Bool)
          → cond along (joined a b (ri ++ rj)) (cond one_way apart (cond against (joined b a (rj ++ ri)) (cond last (joined a b (ri ++ reverse rj)) (cond first (joined a b (reverse ri ++ rj)) apart))))
          ≡ meant routes (cond along (Some (a, b, false, false)) (cond one_way None (cond against (Some (b, a, false, false)) (cond last (Some (a, b, false, true)) (cond first (Some (a, b, true, false)) None)))))
      go true one_way against last first = refl
      go false true against last first = refl
      go false false true last first = refl
      go false false false true first = refl
      go false false false false true = refl
      go false false false false false = refl

  -- it joins these two slots
  pub way_slots : (directed iFirst iLast jFirst jLast : Bool) → Slots routes a b → WaySlots routes (way_of directed iFirst iLast jFirst jLast a b)
  way_slots directed iFirst iLast jFirst jLast k = go (iLast && jFirst) directed (jLast && iFirst) (iLast && jLast) (iFirst && jFirst)
    where
      go : (along one_way against last first : Bool)
          → WaySlots routes (cond along (Some (a, b, false, false)) (cond one_way None (cond against (Some (b, a, false, false)) (cond last (Some (a, b, false, true)) (cond first (Some (a, b, true, false)) None)))))
      go true one_way against last first = k
      go false true against last first = tt
      go false false true last first = record { differ = λ e. k.differ (sym e); into = k.from; from = k.into }
      go false false false true first = k
      go false false false false true = k
      go false false false false false = tt

-- ---- rounds that are laid end to end keep their stops
count_turned : (x : ℕ) (back : Bool) (route : List ℕ) → count x (or_reversed back route) ≡ count x route
count_turned x false route = refl
count_turned x true route = count_reverse x route

load_turned : (s : List ℕ) (back : Bool) (route : List ℕ) → load_of s (or_reversed back route) ≡ load_of s route
load_turned s false route = refl
load_turned s true route = load_reverse s route

every_turned : (P : ℕ → Type 0) (back : Bool) (route : List ℕ) → Every P route → Every P (or_reversed back route)
every_turned P false route e = e
every_turned P true route e = every_reverse P route e

length_turned : (back : Bool) (route : List ℕ) → length (or_reversed back route) ≡ length route
length_turned false route = refl
length_turned true route = length-reverse route

pub turned_stops : (s : List ℕ) (P : ℕ → Type 0) (back forth : Bool) (into from : List ℕ) → JoinedStops s P into from (end_to_end back forth into from)
turned_stops s P back forth into from = record {
  counted = λ x. count_append x (or_reversed back into) (or_reversed forth from) ∙ omega (arith, count_turned x back into, count_turned x forth from);
  load = load_append s (or_reversed back into) (or_reversed forth from) ∙ omega (arith, load_turned s back into, load_turned s forth from);
  long = length-append (or_reversed back into) (or_reversed forth from) ∙ omega (arith, length_turned back into, length_turned forth from);
  every = λ e f. every_append P (or_reversed back into) (or_reversed forth from) (every_turned P back into e) (every_turned P forth from f);
}
