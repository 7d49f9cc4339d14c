-- Where a vehicle's rest stands, by its schedule and the rest at home. Assumes nothing.
use Rattle.std.specs.Prelude.{Option, Some, None}
use mathlib.Core.Path.{◌≡◌, refl, sym, ap, ◌∙◌}
use Prim.Native.Nat.{ℕ, ◌+◌}
use native.Mathlib.Omega.{arith}
use mathlib.Core.Bool.{false}
use mathlib.Core.Logic.{inl, inr}
use mathlib.Core.List.{List}
use lib.ListN.{length}
use Rattle.sheet.specs.declared.vehicle.VehicleBreak.{VehicleBreak}
use Rattle.evaluation_clock.specs.declared.clock.Schedule.{Schedule}
use Rattle.evaluation_clock.specs.RestAnswer.{RestAnswer}
use Rattle.evaluation.specs.declared.limits.RouteLimits.{RouteLimits}
use Rattle.evaluation.specs.Walk.{scheduled_of}
use Rattle.evaluation.specs.Verdict.{Verdict, held_to, or_home, verdict_on, eval_of, placed_rest}
use Rattle.evaluation.specs.Feasible.{route_eval}
use Rattle.evaluation.proofs.ByRest.{by_home}
use Rattle.evaluation.specs.Laws.Verdict.{unmarked_home}
use Rattle.evaluator.specs.Laws.Agree.{verdict_rest}
use Rattle.evaluator.specs.Laws.Home.{Turns, told}

-- what is not mended stays
unmended : (limits : RouteLimits) (b : VehicleBreak) (place : ℕ) (plain : Option Schedule) (v : Verdict) → eval_of (or_home limits (Some b) place plain v) ≡ None → placed_rest v ≡ placed_rest (or_home limits (Some b) place plain v)
unmended limits b place plain v n = go (told limits (Some b) place plain v)
  where
    go : Turns limits (Some b) place plain v (or_home limits (Some b) place plain v) → placed_rest v ≡ placed_rest (or_home limits (Some b) place plain v)
    go (inl e) = ap placed_rest (sym e)
    go (inr m) = let z : Some m.k ≡ None = sym (ap eval_of m.is) ∙ n in let y : ◌≡◌ {A = ℕ} 0 1 = cc in absurd (omega arith)

module _ (s : List ℕ) (depot : ℕ) (limits : RouteLimits) (route : List ℕ) (b : VehicleBreak) (x : Option Schedule) (r : limits.rest ≡ Some b) (e : x ≡ scheduled_of s depot (Some b) route) where
  pub rest_unmarked : (a : RestAnswer) → limits.at_home ≡ false → a ≡ placed_rest (held_to limits x) → a ≡ placed_rest (verdict_on s depot limits route)
  rest_unmarked a m h =
      let plain = scheduled_of s depot None route in
      h ∙ ap placed_rest (sym (unmarked_home limits (Some b) (1 + length route) plain (held_to limits x) m) ∙ by_home s depot limits route b x r e plain refl)

  asked : Verdict
  asked = or_home limits (Some b) (1 + length route) (scheduled_of s depot None route) (held_to limits x)

  told_so : placed_rest asked ≡ placed_rest (verdict_on s depot limits route)
  unfolding asked
  told_so = ap placed_rest (by_home s depot limits route b x r e (scheduled_of s depot None route) refl)

  -- where the limits are asked
  pub rest_passed : (k : Schedule) → route_eval s depot limits route ≡ Some k → k.rest ≡ placed_rest (verdict_on s depot limits route)
  unfolding route_eval
  rest_passed k h = sym (verdict_rest (verdict_on s depot limits route) k h)

  pub rest_kept : (a : RestAnswer) → route_eval s depot limits route ≡ None → a ≡ placed_rest (held_to limits x) → a ≡ placed_rest (verdict_on s depot limits route)
  unfolding route_eval asked
  rest_kept a h k = k ∙ unmended limits b (1 + length route) (scheduled_of s depot None route) (held_to limits x) (ap eval_of (by_home s depot limits route b x r e (scheduled_of s depot None route) refl) ∙ h) ∙ told_so
