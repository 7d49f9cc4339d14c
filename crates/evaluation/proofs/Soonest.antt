-- Of a rest on the way and a rest at home one keeps the limits exactly if the one that ends sooner does: both rounds drive the same legs. Assumes nothing.
use Rattle.std.specs.Prelude.{Option, Some, None, Float}
use mathlib.Core.Path.{◌≡◌, refl, sym, ap, ◌∙◌, subst}
use Prim.Native.Nat.{ℕ, ◌+◌}
use mathlib.Core.Bool.{Bool, true, false, not, ◌&&◌, ◌||◌, cond, true≢false, or-false, and-false}
use mathlib.Core.List.{List}
use lib.Dec.{T_not}
use lib.ListN.{length}
use lib.Ieee.{Float, le}
use lib.Ieee.Bits.{is_true}
use Rattle.std.proofs.lemmas.Float.{le_left, le_refl, le_trans, le_of_lt, lt_of_not-le, lt_of_lt_of_le, T_from_true, T_from_false}
use Rattle.std.proofs.lemmas.Bool.{and_parts, false_from_ne_true, both_ways}
use Rattle.sheet.specs.Values.{distance_of, time_of}
use Rattle.sheet.specs.declared.vehicle.VehicleBreak.{VehicleBreak}
use Rattle.evaluation_clock.specs.declared.label.Label.{Label}
use Rattle.evaluation_clock.specs.declared.clock.Schedule.{Schedule}
use Rattle.evaluation_clock.specs.Sums.{◌⊕◌}
use Rattle.evaluation_clock.specs.Clock.{home_schedule, unrested, end_of, homeward, returned}
use Rattle.evaluation.specs.declared.limits.RouteLimits.{RouteLimits}
use Rattle.evaluation.specs.Limits.{within_of, allow_of}
use Rattle.evaluation.specs.Walk.{start_at, walked_over, home_from, scheduled_of}
use Rattle.evaluation.specs.Verdict.{Verdict, no_schedule, held_to, home_start, mends, rested_home, mended_by, or_home, is_feasible}
use Rattle.evaluation.specs.Feasible.{route_feasible}
use Rattle.evaluation.specs.Soonest.{outlasts, sooner_of, soonest_of}
use Rattle.evaluation.specs.Laws.Walk.{plain_walk}
use Rattle.evaluation.specs.Laws.Verdict.{held_passes, unmarked_home}
use Rattle.evaluation.proofs.ByRest.{by_home, either_passes, mended_passes}

-- ---- a maximum, of an end y that comes before x, and of one that does not
sooner_within : (max : Option Float) (x y : Float) → (not (le x y) && le y y) ≡ true → within_of max x ≡ true → within_of max y ≡ true
sooner_within None x y o h = refl
sooner_within (Some end) x y o h = go (le x y) refl o
  where
    go : (t : Bool) → le x y ≡ t → (not t && le y y) ≡ true → le y end ≡ true
    go true e o = absurd (true≢false (sym o))
    go false e o =
        let k = T_from_true (le x end) h in
        let y_before = lt_of_not-le x y (le_left x end k) (le_left y y (T_from_true (le y y) o)) (T_from_false (le x y) e) in
        is_true (le y end) (le_of_lt y end (lt_of_lt_of_le y x end y_before k))

later_within : (max : Option Float) (x y : Float) → (not (le x y) && le y y) ≡ false → within_of max y ≡ true → within_of max x ≡ true
later_within None x y o h = refl
later_within (Some end) x y o h = go (le x y) refl o
  where
    go : (t : Bool) → le x y ≡ t → (not t && le y y) ≡ false → le x end ≡ true
    go true e o = is_true (le x end) (le_trans x y end (T_from_true (le x y) e) (T_from_true (le y end) h))
    go false e o = absurd (T_not (le y y) (T_from_false (le y y) o) (le_refl y (le_left y end (T_from_true (le y end) h))))

module _ (limits : RouteLimits) (distance x y : Float) where
  sooner_allowed : (not (le x y) && le y y) ≡ true → allow_of limits distance x ≡ true → allow_of limits distance y ≡ true
  unfolding allow_of
  sooner_allowed o h =
      let w = and_parts (within_of limits.max_distance distance) (within_of limits.max_duration x) h in
      rw w.0 (sooner_within limits.max_duration x y o w.1)

  later_allowed : (not (le x y) && le y y) ≡ false → allow_of limits distance y ≡ true → allow_of limits distance x ≡ true
  unfolding allow_of
  later_allowed o h =
      let w = and_parts (within_of limits.max_distance distance) (within_of limits.max_duration y) h in
      rw w.0 (later_within limits.max_duration x y o w.1)

-- ---- a schedule of the same distance, or none
abbrev Driven : Float → Option Schedule → Type 0
Driven distance (Some k) = k.distance ≡ distance
Driven distance None = Unit

driven_end : (x : Option Label) (distance back : Float) → Driven distance (end_of x distance back)
unfolding end_of
driven_end (Some l) distance back = refl
driven_end None distance back = tt

driven_home : (r : Option VehicleBreak) (x y : Option Label) (distance back : Float) → Driven distance (returned r x y distance back)
unfolding returned unrested homeward
driven_home None (Some l) y distance back = refl
driven_home None None y distance back = tt
driven_home (Some b) None y distance back = driven_end y distance back
driven_home (Some b) (Some l) y distance back = go (le (l.time ⊕ back) b.earliest)
  where
    go : (t : Bool) → Driven distance (cond t (Some (home_schedule l distance back None)) (end_of y distance back))
    go true = refl
    go false = driven_end y distance back

-- ---- the limits are kept by the sooner exactly if one of the two keeps them
module _ (limits : RouteLimits) (b : VehicleBreak) (place : ℕ) (k : Schedule) (marked : limits.at_home ≡ true) where
  abbrev end : Float
  end = home_start b k.duration ⊕ b.duration

  abbrev begins : Bool
  begins = le (home_start b k.duration) b.latest

  either : (v : Verdict) → is_feasible (or_home limits (Some b) place (Some k) v) ≡ (is_feasible v || (begins && allow_of limits k.distance end))
  unfolding mends
  either v =
      either_passes limits b place (Some k) v
      ∙ ap (λ (t : Bool). is_feasible v || (t && is_feasible (mended_by limits b place (Some k) no_schedule))) marked
      ∙ ap (λ (t : Bool). is_feasible v || t) (mended_passes limits b place k)

  -- of none on the way
  none_sooner : is_feasible (held_to limits (sooner_of b place (Some k) None)) ≡ is_feasible (or_home limits (Some b) place (Some k) (held_to limits None))
  unfolding sooner_of outlasts held_to
  none_sooner = go begins ∙ sym (either no_schedule)
    where
      go : (t : Bool) → is_feasible (held_to limits (cond (t && true) (Some (rested_home b place k)) None)) ≡ (t && allow_of limits k.distance end)
      go true = held_passes limits (rested_home b place k)
      go false = refl

  -- of one on the way
  module _ (j : Schedule) (same : j.distance ≡ k.distance) where
    abbrev keeps : Float → Bool
    keeps duration = allow_of limits k.distance duration

    on_way : is_feasible (held_to limits (Some j)) ≡ keeps j.duration
    on_way = held_passes limits j ∙ ap (λ (d : Float). allow_of limits d j.duration) same

    stays : (t : Bool) → (t ≡ false → keeps end ≡ false) → t ≡ (t || keeps end)
    stays true f = refl
    stays false f = sym (f refl)

    leaves : (t : Bool) → (t ≡ true → keeps end ≡ true) → keeps end ≡ (t || keeps end)
    leaves true f = f refl
    leaves false f = refl

    one_sooner : is_feasible (held_to limits (sooner_of b place (Some k) (Some j))) ≡ is_feasible (or_home limits (Some b) place (Some k) (held_to limits (Some j)))
    unfolding sooner_of outlasts
    one_sooner = go begins (not (le j.duration end) && le end end) refl ∙ ap (λ (t : Bool). t || (begins && keeps end)) (sym on_way) ∙ sym (either (held_to limits (Some j)))
      where
        go : (m o : Bool) → (not (le j.duration end) && le end end) ≡ o
            → is_feasible (held_to limits (cond (m && o) (Some (rested_home b place k)) (Some j))) ≡ (keeps j.duration || (m && keeps end))
        go false o f = on_way ∙ sym (or-false (keeps j.duration))
        go true true f = held_passes limits (rested_home b place k) ∙ leaves (keeps j.duration) (sooner_allowed limits k.distance j.duration end f)
        go true false f = on_way ∙ stays (keeps j.duration) (λ e. false_from_ne_true (keeps end) (λ t. both_ways (keeps j.duration) e (later_allowed limits k.distance j.duration end f t)))

  sooner_keeps : (x : Option Schedule) → Driven k.distance x → is_feasible (held_to limits (sooner_of b place (Some k) x)) ≡ is_feasible (or_home limits (Some b) place (Some k) (held_to limits x))
  sooner_keeps None d = none_sooner
  sooner_keeps (Some j) d = one_sooner j d

sooner_held : (limits : RouteLimits) (b : VehicleBreak) (place : ℕ) (distance : Float) (plain x : Option Schedule) → limits.at_home ≡ true → Driven distance plain → Driven distance x
    → is_feasible (held_to limits (sooner_of b place plain x)) ≡ is_feasible (or_home limits (Some b) place plain (held_to limits x))
unfolding sooner_of
sooner_held limits b place distance None x m p d =
    sym (or-false (is_feasible (held_to limits x))) ∙ ap (◌||◌ (is_feasible (held_to limits x))) (sym (and-false limits.at_home))
    ∙ sym (either_passes limits b place None (held_to limits x))
sooner_held limits b place distance (Some k) x m p d = sooner_keeps limits b place k m x (subst (λ (y : Float). Driven y x) (sym p) d)

-- ---- a round
module _ (s : List ℕ) (depot : ℕ) (limits : RouteLimits) (route : List ℕ) (b : VehicleBreak) (r : limits.rest ≡ Some b) where
  abbrev plain : Option Schedule
  plain = scheduled_of s depot None route

  abbrev found : Option Schedule
  found = scheduled_of s depot (Some b) route

  abbrev driven : Float
  driven = let p = walked_over s (start_at (Some b) depot) route in p.distance ⊕ distance_of s p.clock.prev depot

  plain_driven : Driven driven plain
  unfolding unrested returned
  plain_driven =
      let p = walked_over s (start_at (Some b) depot) route in
      subst (Driven driven) (plain_walk s depot (Some b) route) (driven_home None p.clock.before p.clock.after driven (time_of s p.clock.prev depot))

  found_driven : Driven driven found
  unfolding scheduled_of home_from
  found_driven =
      let p = walked_over s (start_at (Some b) depot) route in
      driven_home p.clock.rest p.clock.before p.clock.after driven (time_of s p.clock.prev depot)

  pub soonest_feasible : (x : Option Schedule) → x ≡ soonest_of limits.at_home s depot b route → is_feasible (held_to limits x) ≡ route_feasible s depot limits route
  unfolding route_feasible
  soonest_feasible x e =
      ap (λ (y : Option Schedule). is_feasible (held_to limits y)) e
      ∙ go limits.at_home refl
      ∙ ap is_feasible (by_home s depot limits route b found r refl plain refl)
    where
      go : (t : Bool) → limits.at_home ≡ t → is_feasible (held_to limits (cond t (sooner_of b (1 + length route) plain found) found)) ≡ is_feasible (or_home limits (Some b) (1 + length route) plain (held_to limits found))
      go true m = sooner_held limits b (1 + length route) driven plain found m plain_driven found_driven
      go false m = ap is_feasible (sym (unmarked_home limits (Some b) (1 + length route) plain (held_to limits found) m))

-- ---- a clock brought home
pub home_sooner : (b : VehicleBreak) (place : ℕ) (k h : Schedule) (x : Option Schedule) (start : Float) (o : Bool) → start ≡ home_start b k.duration → le start b.latest ≡ true → o ≡ outlasts x (start ⊕ b.duration) → o ≡ true → h ≡ rested_home b place k
    → Some h ≡ sooner_of b place (Some k) x
unfolding sooner_of
home_sooner b place k h x start o e m f t r =
    let p : le (home_start b k.duration) b.latest ≡ true = ap (λ (y : Float). le y b.latest) (sym e) ∙ m in
    let q : outlasts x (home_start b k.duration ⊕ b.duration) ≡ true = ap (λ (y : Float). outlasts x (y ⊕ b.duration)) (sym e) ∙ sym f ∙ t in
    rw (r, p, q) refl

pub done_sooner : (b : VehicleBreak) (place : ℕ) (before : Option Label) (l : Label) (distance back time : Float) (k : Schedule) (x : Option Schedule) → before ≡ Some l → back ≡ time → k ≡ home_schedule l distance back None
    → sooner_of b place (Some k) x ≡ sooner_of b place (unrested before distance time) x
unfolding unrested
done_sooner b place before l distance back time k x e t h = rw (e, h, t) refl

pub refused_sooner : (b : VehicleBreak) (place : ℕ) (before : Option Label) (distance time : Float) (x : Option Schedule) → before ≡ None → x ≡ sooner_of b place (unrested before distance time) x
unfolding unrested sooner_of
refused_sooner b place before distance time x e = rw e refl
