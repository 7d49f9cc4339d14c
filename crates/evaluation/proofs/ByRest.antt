-- The verdict on a round, by its vehicle's rest. Assumes nothing.
use Rattle.std.specs.Prelude.{Option, Some, None, is_some}
use mathlib.Core.Path.{◌≡◌, refl, sym, ap, ◌∙◌}
use Prim.Native.Nat.{ℕ, ◌+◌}
use mathlib.Core.Bool.{Bool, true, false, ◌&&◌, ◌||◌, cond}
use native.Mathlib.Omega.{arith}
use mathlib.Core.List.{List}
use lib.ListN.{length}
use Rattle.sheet.specs.declared.vehicle.VehicleBreak.{VehicleBreak}
use Rattle.evaluation_clock.specs.declared.clock.Schedule.{Schedule}
use Rattle.evaluation.specs.declared.limits.RouteLimits.{RouteLimits}
use Rattle.evaluation.specs.Walk.{scheduled_of}
use Rattle.evaluation.specs.Verdict.{Verdict, allowed, over_limit, no_schedule, held_to, mends, rested_home, mended_by, or_home, verdict_on, is_feasible, eval_of}
use Rattle.evaluation.specs.Feasible.{route_eval}
use Rattle.evaluation.specs.Laws.Verdict.{allowed_passes, verdict_scheduled, restless_home}

-- where there is none
pub by_rest : (s : List ℕ) (depot : ℕ) (limits : RouteLimits) (route : List ℕ) (rest : Option VehicleBreak) (x : Option Schedule) → limits.rest ≡ rest → rest ≡ None → x ≡ scheduled_of s depot rest route → held_to limits x ≡ verdict_on s depot limits route
by_rest s depot limits route rest x r h e =
    rw (e, ← r)
    (sym (verdict_scheduled s depot limits route ∙ restless_home limits limits.rest (1 + length route) (scheduled_of s depot None route) _ (r ∙ h)))

-- and where it is asked whether it may
module _ (s : List ℕ) (depot : ℕ) (limits : RouteLimits) (route : List ℕ) (b : VehicleBreak) (x : Option Schedule) (r : limits.rest ≡ Some b) (e : x ≡ scheduled_of s depot (Some b) route) where
  pub by_home : (plain : Option Schedule) → plain ≡ scheduled_of s depot None route → or_home limits (Some b) (1 + length route) plain (held_to limits x) ≡ verdict_on s depot limits route
  by_home plain p = rw (e, p, ← r) (sym (verdict_scheduled s depot limits route))

-- a verdict that is turned down, with the rest at home
home_told : (limits : RouteLimits) (b : VehicleBreak) (place : ℕ) (plain : Option Schedule) (v : Verdict) → eval_of v ≡ None → eval_of (mended_by limits b place plain v) ≡ eval_of (mended_by limits b place plain no_schedule)
home_told limits b place None v n = n
home_told limits b place (Some k) v n = go (mends limits b k.distance k.duration)
  where
    go : (t : Bool) → eval_of (cond t (allowed (rested_home b place k)) v) ≡ eval_of (cond t (allowed (rested_home b place k)) no_schedule)
    go true = refl
    go false = n

marked_told : (limits : RouteLimits) (b : VehicleBreak) (place : ℕ) (plain : Option Schedule) (v : Verdict) (t : Bool) → limits.at_home ≡ t → eval_of v ≡ None → eval_of (cond limits.at_home (mended_by limits b place plain v) v) ≡ cond t (eval_of (mended_by limits b place plain no_schedule)) None
marked_told limits b place plain v true e n = ap (λ (t : Bool). eval_of (cond t (mended_by limits b place plain v) v)) e ∙ home_told limits b place plain v n
marked_told limits b place plain v false e n = ap (λ (t : Bool). eval_of (cond t (mended_by limits b place plain v) v)) e ∙ n

pub turned_down : (limits : RouteLimits) (b : VehicleBreak) (place : ℕ) (plain : Option Schedule) (v : Verdict) (t : Bool) → limits.at_home ≡ t → eval_of v ≡ None → eval_of (or_home limits (Some b) place plain v) ≡ cond t (eval_of (mended_by limits b place plain no_schedule)) None
unfolding or_home
turned_down limits b place plain (allowed k) t e n = let y : ◌≡◌ {A = ℕ} 0 1 = cc in absurd (omega arith)
turned_down limits b place plain (over_limit k) t e n = marked_told limits b place plain (over_limit k) t e n
turned_down limits b place plain no_schedule t e n = marked_told limits b place plain no_schedule t e n

-- one that passes stays
pub passed_told : (limits : RouteLimits) (b : VehicleBreak) (place : ℕ) (plain : Option Schedule) (v : Verdict) (k : Schedule) → eval_of v ≡ Some k → eval_of (or_home limits (Some b) place plain v) ≡ Some k
unfolding or_home
passed_told limits b place plain (allowed j) k e = e
passed_told limits b place plain (over_limit j) k e = let y : ◌≡◌ {A = ℕ} 0 1 = cc in absurd (omega arith)
passed_told limits b place plain no_schedule k e = let y : ◌≡◌ {A = ℕ} 0 1 = cc in absurd (omega arith)

-- ---- the figures of a vehicle with a rest
module _ (s : List ℕ) (depot : ℕ) (limits : RouteLimits) (route : List ℕ) (b : VehicleBreak) (x : Option Schedule) (r : limits.rest ≡ Some b) (e : x ≡ scheduled_of s depot (Some b) route) where
  asked : eval_of (or_home limits (Some b) (1 + length route) (scheduled_of s depot None route) (held_to limits x)) ≡ route_eval s depot limits route
  unfolding route_eval
  asked = ap eval_of (by_home s depot limits route b x r e (scheduled_of s depot None route) refl)

  pub eval_passed : (k : Schedule) → eval_of (held_to limits x) ≡ Some k → Some k ≡ route_eval s depot limits route
  eval_passed k a = sym (passed_told limits b (1 + length route) (scheduled_of s depot None route) (held_to limits x) k a) ∙ asked

  pub eval_unmarked : eval_of (held_to limits x) ≡ None → limits.at_home ≡ false → None ≡ route_eval s depot limits route
  eval_unmarked n h = sym (turned_down limits b (1 + length route) (scheduled_of s depot None route) (held_to limits x) false h n) ∙ asked

  pub eval_marked : (place : ℕ) (plain : Option Schedule) → eval_of (held_to limits x) ≡ None → limits.at_home ≡ true → place ≡ 1 + length route → plain ≡ scheduled_of s depot None route → eval_of (mended_by limits b place plain no_schedule) ≡ route_eval s depot limits route
  eval_marked place plain n h c w = rw (c, w) (sym (turned_down limits b (1 + length route) (scheduled_of s depot None route) (held_to limits x) true h n) ∙ asked)

-- ---- what passes: on the way, or with the rest at home
module _ (limits : RouteLimits) (b : VehicleBreak) (place : ℕ) where
  pub mended_passes : (k : Schedule) → is_feasible (mended_by limits b place (Some k) no_schedule) ≡ mends limits b k.distance k.duration
  mended_passes k = go (mends limits b k.distance k.duration)
    where
      go : (t : Bool) → is_feasible (cond t (allowed (rested_home b place k)) no_schedule) ≡ t
      go true = refl
      go false = refl

  -- of one that does not pass on the way
  home_passes : (plain : Option Schedule) (v : Verdict) → eval_of v ≡ None → is_feasible (or_home limits (Some b) place plain v) ≡ (limits.at_home && is_feasible (mended_by limits b place plain no_schedule))
  home_passes plain v n = sym (allowed_passes (or_home limits (Some b) place plain v)) ∙ ap is_some (turned_down limits b place plain v limits.at_home refl n) ∙ go limits.at_home
    where
      go : (t : Bool) → is_some (cond t (eval_of (mended_by limits b place plain no_schedule)) None) ≡ (t && is_feasible (mended_by limits b place plain no_schedule))
      go true = allowed_passes (mended_by limits b place plain no_schedule)
      go false = refl

  pub either_passes : (plain : Option Schedule) (v : Verdict) → is_feasible (or_home limits (Some b) place plain v) ≡ (is_feasible v || (limits.at_home && is_feasible (mended_by limits b place plain no_schedule)))
  unfolding or_home
  either_passes plain (allowed k) = refl
  either_passes plain (over_limit k) = home_passes plain (over_limit k) refl
  either_passes plain no_schedule = home_passes plain no_schedule refl
