-- The laws of the verdict, for those that ask it. Assumes nothing.
use Rattle.std.specs.Prelude.{◌≡◌, ℕ, ◌+◌, Bool, true, ◌&&◌, cond, ◌⊎◌, length, Float, Option, Some, None, is_none, is_some}
use Rattle.std.proofs.Math.Path.{refl, subst}
use Rattle.std.proofs.Common.{sym, ap, ◌∙◌, true≢false, inl, inr, arith}
use Rattle.std.proofs.Math.Bool.{false}
use mathlib.Core.List.{List, [], ◌∷◌, ◌++◌}
use Rattle.std.proofs.Math.Dec.{T}
use Rattle.std.proofs.lemmas.Bool.{or_parts}
use Rattle.std.proofs.lemmas.Option.{same_Some}
use Rattle.sheet.specs.Values.{stop_of, distance_of, time_of}
use Rattle.sheet.specs.declared.customer.Gate.{Gate}
use Rattle.sheet.specs.declared.customer.Gate.TheVariants.{Open, Hard, Soft}
use Rattle.sheet.specs.declared.vehicle.VehicleBreak.{VehicleBreak}
use Rattle.evaluation_clock.specs.declared.label.Label.{Label}
use Rattle.evaluation_clock.specs.declared.clock.Schedule.{Schedule}
use Rattle.evaluation.specs.declared.limits.RouteLimits.{RouteLimits}
use Rattle.evaluation_clock.specs.Sums.{◌⊕◌}
use Rattle.evaluation_clock.specs.Serve.{leaving_at, pass, serve_of}
use Rattle.evaluation_clock.specs.Clock.{Clock, step_of, moved_of, next_of, home_schedule, unrested, returned}
use Rattle.evaluation.specs.Walk.{Position, start_at, drive_to, walked_over, home_from, scheduled_of}
use Rattle.evaluation.specs.Limits.{is_unlimited, within_of, allow_of}
use Rattle.evaluation.specs.Checks.{windowed, row_windowed, some_windowed}
use Rattle.evaluation.specs.Verdict.{Verdict, allowed, over_limit, no_schedule, held_to, mends, rested_home, mended_by, mended, or_home, verdict_of, verdict_from, verdict_on, is_feasible, eval_of, placed_rest}
use Rattle.evaluation.specs.Feasible.{route_feasible, route_eval}
use Rattle.evaluation.specs.Laws.Walk.{walked_rest, walked_place, walked_more, plain_from, plain_walk}

-- ---- the two answers on one round
pub allowed_passes : (v : Verdict) → is_some (eval_of v) ≡ is_feasible v
allowed_passes (allowed k) = refl
allowed_passes (over_limit k) = refl
allowed_passes no_schedule = refl

-- a round has figures exactly where it is feasible, on every sheet
pub allowed_feasible : (s : List ℕ) (depot : ℕ) (limits : RouteLimits) (route : List ℕ) → is_some (route_eval s depot limits route) ≡ route_feasible s depot limits route
unfolding route_eval route_feasible
allowed_feasible s depot limits route = allowed_passes (verdict_on s depot limits route)

-- ---- the verdict is the schedule's, held to the limits, or else the rest is at home
pub verdict_scheduled : (s : List ℕ) (depot : ℕ) (limits : RouteLimits) (route : List ℕ) → verdict_on s depot limits route ≡ or_home limits limits.rest (1 + length route) (scheduled_of s depot None route) (held_to limits (scheduled_of s depot limits.rest route))
unfolding scheduled_of home_from verdict_from verdict_of
verdict_scheduled s depot limits route =
    let p = walked_over s (start_at limits.rest depot) route in
    let place : p.clock.place ≡ 1 + length route = walked_place s (start_at limits.rest depot) route in
    ap (λ (r : Option VehicleBreak). or_home limits r p.clock.place (plain_from s depot p) (held_to limits (home_from s depot p))) (walked_rest s (start_at limits.rest depot) route)
    ∙ ap (λ (n : ℕ). or_home limits limits.rest n (plain_from s depot p) (held_to limits (home_from s depot p))) place
    ∙ ap (λ (x : Option Schedule). or_home limits limits.rest (1 + length route) x (held_to limits (home_from s depot p))) (plain_walk s depot limits.rest route)

-- ---- where a rest at home does not enter
pub restless_home : (limits : RouteLimits) (rest : Option VehicleBreak) (place : ℕ) (plain : Option Schedule) (v : Verdict) → rest ≡ None → or_home limits rest place plain v ≡ v
unfolding or_home
restless_home limits rest place plain (allowed k) e = refl
restless_home limits rest place plain (over_limit k) e = rw e refl
restless_home limits rest place plain no_schedule e = rw e refl

pub unmarked_home : (limits : RouteLimits) (rest : Option VehicleBreak) (place : ℕ) (plain : Option Schedule) (v : Verdict) → limits.at_home ≡ false → or_home limits rest place plain v ≡ v
unfolding or_home
unmarked_home limits rest place plain (allowed k) e = refl
unmarked_home limits None place plain (over_limit k) e = refl
unmarked_home limits None place plain no_schedule e = refl
unmarked_home limits (Some b) place plain (over_limit k) e = rw e refl
unmarked_home limits (Some b) place plain no_schedule e = rw e refl

-- its figures, where it has some: the schedule's, or those with the rest at home
held_figures : (limits : RouteLimits) (x : Option Schedule) (k : Schedule) → held_to limits x ≡ allowed k → x ≡ Some k
unfolding held_to
held_figures limits None k e = cc
held_figures limits (Some x) k e = go (allow_of limits x.distance x.duration) e
  where
    go : (t : Bool) → cond t (allowed x) (over_limit x) ≡ allowed k → Some x ≡ Some k
    go true e = cc
    go false e = cc

-- the schedule j without a rest, with the rest at home
pub record Mended (limits : RouteLimits) (rest : Option VehicleBreak) (place : ℕ) (plain : Option Schedule) (k : Schedule) : Type 0 where
  pub b : VehicleBreak
  pub resting : rest ≡ Some b
  pub marked : limits.at_home ≡ true
  pub j : Schedule
  pub walked : plain ≡ Some j
  pub fits : mends limits b j.distance j.duration ≡ true
  pub is : rested_home b place j ≡ k

mended_figures : (limits : RouteLimits) (rest : Option VehicleBreak) (place : ℕ) (plain : Option Schedule) (v : Verdict) (k : Schedule) → eval_of v ≡ None → eval_of (mended limits rest place plain v) ≡ Some k → Mended limits rest place plain k
mended_figures limits None place plain v k n e = let z : None ≡ Some k = sym n ∙ e in let y : ◌≡◌ {A = ℕ} 0 1 = cc in absurd (omega arith)
mended_figures limits (Some b) place plain v k n e = marked limits.at_home refl e
  where
    none : eval_of v ≡ Some k → Mended limits (Some b) place plain k
    none f = let z : None ≡ Some k = sym n ∙ f in let y : ◌≡◌ {A = ℕ} 0 1 = cc in absurd (omega arith)

    fit : (j : Schedule) (t : Bool) → limits.at_home ≡ true → plain ≡ Some j → mends limits b j.distance j.duration ≡ t → eval_of (cond t (allowed (rested_home b place j)) v) ≡ Some k → Mended limits (Some b) place plain k
    fit j true h w m f = record { b = b; resting = refl; marked = h; j = j; walked = w; fits = m; is = same_Some (rested_home b place j) k f }
    fit j false h w m f = none f

    walked : (x : Option Schedule) → limits.at_home ≡ true → plain ≡ x → eval_of (mended_by limits b place x v) ≡ Some k → Mended limits (Some b) place plain k
    walked None h w f = none f
    walked (Some j) h w f = fit j (mends limits b j.distance j.duration) h w refl f

    marked : (t : Bool) → limits.at_home ≡ t → eval_of (cond t (mended_by limits b place plain v) v) ≡ Some k → Mended limits (Some b) place plain k
    marked true h f = walked plain h refl f
    marked false h f = none f

home_figures : (limits : RouteLimits) (rest : Option VehicleBreak) (place : ℕ) (plain x : Option Schedule) (k : Schedule) (v : Verdict) → held_to limits x ≡ v → eval_of (or_home limits rest place plain v) ≡ Some k → (x ≡ Some k) ⊎ Mended limits rest place plain k
unfolding or_home
home_figures limits rest place plain x k (allowed j) h e = inl (held_figures limits x k (h ∙ ap allowed (same_Some j k e)))
home_figures limits rest place plain x k (over_limit j) h e = inr (mended_figures limits rest place plain (over_limit j) k refl e)
home_figures limits rest place plain x k no_schedule h e = inr (mended_figures limits rest place plain no_schedule k refl e)

pub allowed_figures : (s : List ℕ) (depot : ℕ) (limits : RouteLimits) (route : List ℕ) (k : Schedule) → route_eval s depot limits route ≡ Some k → (scheduled_of s depot limits.rest route ≡ Some k) ⊎ Mended limits limits.rest (1 + length route) (scheduled_of s depot None route) k
unfolding route_eval
allowed_figures s depot limits route k e =
    home_figures limits limits.rest (1 + length route) (scheduled_of s depot None route) (scheduled_of s depot limits.rest route) k (held_to limits (scheduled_of s depot limits.rest route)) refl
    (sym (ap eval_of (verdict_scheduled s depot limits route)) ∙ e)

-- where there is no schedule
pub held_none : (limits : RouteLimits) → held_to limits None ≡ no_schedule
unfolding held_to
held_none limits = refl

-- a schedule passes where the limits allow its figures
pub held_passes : (limits : RouteLimits) (k : Schedule) → is_feasible (held_to limits (Some k)) ≡ allow_of limits k.distance k.duration
unfolding held_to
held_passes limits k = go (allow_of limits k.distance k.duration)
  where
    go : (t : Bool) → is_feasible (cond t (allowed k) (over_limit k)) ≡ t
    go true = refl
    go false = refl

-- its rest stands where it does, whatever the limits say
pub held_rest : (limits : RouteLimits) (k : Schedule) → placed_rest (held_to limits (Some k)) ≡ k.rest
unfolding held_to
held_rest limits k = go (allow_of limits k.distance k.duration)
  where
    go : (t : Bool) → placed_rest (cond t (allowed k) (over_limit k)) ≡ k.rest
    go true = refl
    go false = refl

-- ---- without a rest the verdict is on the walk's own figures
pub plain_passes : (limits : RouteLimits) (c : Clock) (distance back : Float) (l : Label) → c.rest ≡ None → c.before ≡ Some l → is_feasible (verdict_of limits c distance back) ≡ allow_of limits distance (l.time ⊕ back)
unfolding verdict_of returned unrested
plain_passes limits c distance back l r e =
    rw (r, e) (ap is_feasible (restless_home limits None c.place (Some (home_schedule l distance back None)) (held_to limits (Some (home_schedule l distance back None))) refl) ∙ held_passes limits (home_schedule l distance back None))

-- of a round whose walk misses no hard window
pub walk_feasible : (s : List ℕ) (depot : ℕ) (limits : RouteLimits) (route : List ℕ) (p : Position) (l : Label) → limits.rest ≡ None
    → walked_over s (start_at None depot) route ≡ p → p.clock.before ≡ Some l
    → route_feasible s depot limits route ≡ allow_of limits (p.distance ⊕ distance_of s p.clock.prev depot) (l.time ⊕ time_of s p.clock.prev depot)
unfolding route_feasible verdict_from
walk_feasible s depot limits route p l r e f =
    ap (λ (x : Option VehicleBreak). is_feasible (verdict_from s depot limits (walked_over s (start_at x depot) route))) r
    ∙ ap (λ (q : Position). is_feasible (verdict_from s depot limits q)) e
    ∙ plain_passes limits p.clock _ _ l (ap (λ (q : Position). q.clock.rest) (sym e) ∙ walked_rest s (start_at None depot) route) f

-- ---- of a round with one row more, by the position before it
pub longer_feasible : (s : List ℕ) (depot : ℕ) (limits : RouteLimits) (route : List ℕ) (i : ℕ) (p : Position) → walked_over s (start_at limits.rest depot) route ≡ p
    → route_feasible s depot limits (route ++ (i ∷ [])) ≡ is_feasible (verdict_of limits (next_of s p.clock i) (p.distance ⊕ distance_of s p.clock.prev i ⊕ distance_of s i depot) (time_of s i depot))
unfolding route_feasible verdict_from drive_to moved_of
longer_feasible s depot limits route i p e =
    ap (λ (q : Position). is_feasible (verdict_from s depot limits q)) (walked_more s (start_at limits.rest depot) route i ∙ ap (λ (q : Position). drive_to s q i) e)

-- ---- where no row has a window and there is nothing to keep, every round passes
within_all : (d u : Option Float) (r : Option VehicleBreak) → T (is_none d && (is_none u && is_none r)) → (x y : Float) → T (within_of d x && within_of u y)
within_all None None r h x y = tt
within_all None (Some end) r h x y = absurd h
within_all (Some end) u r h x y = absurd h

rest_none : (d u : Option Float) (r : Option VehicleBreak) → T (is_none d && (is_none u && is_none r)) → r ≡ None
rest_none None None None h = refl
rest_none None None (Some b) h = absurd h
rest_none None (Some end) r h = absurd h
rest_none (Some end) u r h = absurd h

open_passes : (l : Label) (arrival service : Float) (g : Gate) → windowed false g ≡ false → pass l arrival service g ≡ Some (leaving_at l (arrival ⊕ service))
unfolding pass
open_passes l arrival service Open e = refl
open_passes l arrival service (Hard w) e = absurd (true≢false e)
open_passes l arrival service (Soft w penalty) e = absurd (true≢false e)

module _ (s : List ℕ) (depot : ℕ) (limits : RouteLimits) (free : T (is_unlimited limits)) where
  -- from any position without a rest whose label is left
  free_from : (rows : List ℕ) (p : Position) (l : Label) → some_windowed false s rows ≡ false → p.clock.rest ≡ None → p.clock.before ≡ Some l → T (is_feasible (verdict_from s depot limits (walked_over s p rows)))
  unfolding verdict_from some_windowed drive_to moved_of step_of serve_of is_unlimited allow_of
  free_from [] p l e r f =
      subst T (sym (plain_passes limits p.clock _ _ l r f)) (within_all limits.max_distance limits.max_duration limits.rest free _ _)
  free_from (row ∷ rows) p l e r f =
      let n = or_parts (row_windowed false s row) (some_windowed false s rows) e in
      let stop = stop_of s row in
      let arrival = l.time ⊕ time_of s p.clock.prev row in
      free_from rows (drive_to s p row) (leaving_at l (arrival ⊕ stop.service)) n.1 r (rw f (open_passes l arrival stop.service stop.gate n.0))

  pub unwindowed_feasible : (route : List ℕ) → some_windowed false s route ≡ false → T (route_feasible s depot limits route)
  unfolding route_feasible is_unlimited
  unwindowed_feasible route e = free_from route (start_at limits.rest depot) _ e (rest_none limits.max_distance limits.max_duration limits.rest free) refl
