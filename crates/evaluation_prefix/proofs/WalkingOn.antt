-- The walk on from some place, and the rounds that have the stops behind it in common. Assumes nothing.
use Rattle.std.specs.Prelude.{Option, Some, None, IfSome, is_some}
use mathlib.Core.Bool.{false, true≢false}
use mathlib.Core.Path.{◌≡◌, refl, sym, ap, ◌∙◌, subst}
use Prim.Native.Nat.{ℕ, ◌+◌, ◌-◌, ◌≤◌, ◌<◌}
use native.Mathlib.Omega.{arith}
use mathlib.Core.List.{List, ◌++◌, foldl-append}
use lib.ListN.{length, take, drop, length-drop, take-append-drop}
use lib.Seq.{length-take-le, take-add, take_all}
use Rattle.sheet.specs.Fields.{rows_of}
use Rattle.evaluation.specs.Laws.Walk.{dead_over, dead_home}
use Rattle.sheet.specs.declared.vehicle.VehicleBreak.{VehicleBreak}
use Rattle.evaluation.specs.declared.limits.RouteLimits.{RouteLimits}
use Rattle.evaluation.specs.declared.schedule.Underway.{Underway}
use Rattle.evaluation_prefix.specs.declared.Prefix.{Prefix}
use Rattle.evaluation.specs.Underway.{position_of, WalksTo}
use Rattle.evaluation.specs.Walk.{Position, start_at, drive_to, walked_over, home_from, scheduled_of}
use Rattle.evaluation_prefix.specs.Prefix.{WalkedBefore}
use Rattle.evaluation_clock.specs.declared.clock.Schedule.{Schedule}

-- nowhere, and so not home
pub gone : (s : List ℕ) (depot : ℕ) (rows : List ℕ) (walk : Option Underway) → walk ≡ None → (place : ℕ) (p : Position) → WalksTo walk place p → None ≡ home_from s depot (walked_over s p rows)
gone s depot rows (Some w) e place p g = cc
gone s depot rows None e place p g = sym (dead_home s depot (walked_over s p rows) (dead_over s p rows g))

-- no rest is asked of a vehicle that has none
pub unasked : (x : Option VehicleBreak) → is_some x ≡ false → x ≡ None
unasked None e = refl
unasked (Some b) e = absurd (true≢false e)

module _ (s : List ℕ) (depot : ℕ) (limits : RouteLimits) (round : List ℕ) (a : Prefix) (g : WalkedBefore s depot limits round a) where
  abbrev start : Position
  start = start_at None depot

  -- walked on to a later place
  pub nearer : (k : ℕ) (w : Underway) (b : Option Underway) → a.stops ≤ k → k ≤ length round → limits.rest ≡ None → a.walk ≡ Some w → IfSome b (λ w. w.prev < rows_of s)
      → ((place : ℕ) → WalksTo b (place + length (take (k - a.stops) (drop a.stops round))) (walked_over s (position_of w place) (take (k - a.stops) (drop a.stops round))))
      → WalkedBefore s depot limits round (record { stops = k; walk = b })
  nearer k w b h l r m from f =
      let part = take (k - a.stops) (drop a.stops round) in
      let long : length part ≡ k - a.stops = length-take-le (k - a.stops) (drop a.stops round) (rw length-drop (omega arith)) in
      let split : take k round ≡ take a.stops round ++ part = ap (λ (n : ℕ). take n round) (let e : k ≡ a.stops + (k - a.stops) = omega arith in e) ∙ take-add a.stops (k - a.stops) round in
      let there : walked_over s start (take a.stops round) ≡ position_of w (a.stops + 1) = rw m at g.stands in
      let same : walked_over s start (take k round) ≡ walked_over s (position_of w (a.stops + 1)) part =
      ap (walked_over s start) split
      ∙ foldl-append (drive_to s) start (take a.stops round) part
      ∙ ap (λ (p : Position). walked_over s p part) there in
      let count : a.stops + 1 + length part ≡ k + 1 = omega (arith, long) in
      record { from = from; place = l; unrested = λ _. r; stands = subst (WalksTo b (k + 1)) (sym same) (subst (λ (n : ℕ). WalksTo b n (walked_over s (position_of w (a.stops + 1)) part)) count (f (a.stops + 1))) }

  -- the round walked to its end
  pub whole : (x : Option Schedule) → ((place : ℕ) (p : Position) → WalksTo a.walk place p → x ≡ home_from s depot (walked_over s p (take (length round - a.stops) (drop a.stops round)))) → x ≡ scheduled_of s depot None round
  unfolding scheduled_of
  whole x f =
      let left : take (length round - a.stops) (drop a.stops round) ≡ drop a.stops round = take_all (length round - a.stops) (drop a.stops round) (rw length-drop (omega arith)) in
      f (a.stops + 1) (walked_over s start (take a.stops round)) g.stands
      ∙ ap (λ (rows : List ℕ). home_from s depot (walked_over s (walked_over s start (take a.stops round)) rows)) left
      ∙ sym (ap (home_from s depot) (foldl-append (drive_to s) start (take a.stops round) (drop a.stops round)))
      ∙ ap (λ (rows : List ℕ). home_from s depot (walked_over s start rows)) (take-append-drop a.stops round)
