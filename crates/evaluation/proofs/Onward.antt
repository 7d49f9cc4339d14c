-- One turn of the walk with a clock: it goes on, stops once no label is left, or ends. Assumes nothing.
use Rattle.std.specs.Prelude.{Option, Some, None, is_some}
use mathlib.Core.Path.{◌≡◌, refl, sym, ap, ◌∙◌}
use Prim.Native.Nat.{ℕ, ◌+◌, ◌≤◌, ◌<◌}
use native.Mathlib.Omega.{arith}
use mathlib.Core.Bool.{Bool, true, false, ◌||◌, cond, true≢false}
use mathlib.Core.List.{List}
use lib.ListN.{length, drop, get_or}
use lib.Ieee.{Float}
use Rattle.lists.specs.Laws.Fold.{fold_turn, fold_done}
use Rattle.sheet.specs.Fields.{rows_of}
use Rattle.sheet.specs.Values.{nought, distance_of, time_of}
use Rattle.sheet.specs.declared.vehicle.VehicleBreak.{VehicleBreak}
use Rattle.evaluation_clock.specs.declared.clock.BreakClock.{BreakClock}
use Rattle.evaluation_clock.specs.declared.clock.Schedule.{Schedule}
use Rattle.evaluation_clock.specs.Sums.{◌⊕◌}
use Rattle.evaluation.specs.Routed.{Routed}
use Rattle.evaluation_clock.specs.Clock.{started, moved_of, alive_of, unrested, finish_of, clock_of, break_clock, next_by}
use Rattle.evaluation.specs.Walk.{Position, drive_to, walked_over, home_from, scheduled_of}
use Rattle.evaluation.specs.Soonest.{sooner_of, soonest_of}
use Rattle.evaluation.specs.Laws.Walk.{dead_over, dead_home, walked_rest, walked_place, plain_from, plain_walk}
use Rattle.evaluation_clock.specs.declared.label.Label.{Label}

abbrev pub position_at : BreakClock → Float → Position
position_at c distance = record { clock = clock_of c; distance = distance }

-- what holds at the head of the loop, which walks on from the position p over the rows
pub record Going (s route : List ℕ) (depot : ℕ) (p : Position) (c : BreakClock) (distance : Float) (i : ℕ) : Type 0 where
  pub routed : Routed s depot route
  pub within : i ≤ length route
  pub from : c.prev < rows_of s
  pub count : c.place ≡ i + 1
  pub same : walked_over s p route ≡ walked_over s (position_at c distance) (drop i route)

module _ (s route : List ℕ) (depot : ℕ) (p : Position) (c : BreakClock) (distance : Float) (i : ℕ) (g : Going s route depot p c distance i) where
  abbrev row : ℕ
  row = get_or route i 0

  pub in_range_lem : i < length route → row < rows_of s
  in_range_lem h = g.routed.row i (omega arith)

  module _ (q : BreakClock) (h : i < length route) (e : q ≡ next_by s c row) where
    on : walked_over s p route ≡ walked_over s (position_at q (distance ⊕ distance_of s c.prev row)) (drop (i + 1) route)
    unfolding drive_to moved_of
    on =
        g.same
        ∙ fold_turn (drive_to s) (position_at c distance) route i 0 (omega arith)
        ∙ ap (λ (r : BreakClock). walked_over s (position_at r (distance ⊕ distance_of s c.prev row)) (drop (i + 1) route)) (sym e)

    at : q.prev ≡ row
    unfolding moved_of
    at = ap (λ (r : BreakClock). r.prev) e

    counted : q.place ≡ c.place + 1
    unfolding moved_of
    counted = ap (λ (r : BreakClock). r.place) e

    pub goes_on : Going s route depot p q (distance ⊕ distance_of s c.prev row) (i + 1)
    goes_on = record {
      routed = g.routed;
      within = omega arith;
      from = rw at (in_range_lem h);
      count = omega (arith, counted, g.count);
      same = on;
    }

    pub stops : alive_of (clock_of q) ≡ false → alive_of (walked_over s p route).clock ≡ false
    stops t = rw on (dead_over s (position_at q (distance ⊕ distance_of s c.prev row)) (drop (i + 1) route) t)

  pub ends : length route ≤ i → walked_over s p route ≡ position_at c distance
  ends h = g.same ∙ fold_done (drive_to s) (position_at c distance) route i (omega (arith, g.within))

-- ---- the whole round, of a clock that began at the depot
module _ (s route : List ℕ) (depot : ℕ) (b : VehicleBreak) (c₀ : BreakClock) (e : c₀ ≡ break_clock b (started (Some b) depot)) where
  began : home_from s depot (walked_over s (position_at c₀ nought) route) ≡ scheduled_of s depot (Some b) route
  unfolding scheduled_of
  began = ap (λ (c : BreakClock). home_from s depot (walked_over s (position_at c nought) route)) e

  -- the walk without a rest is the clock's label that has it still to take
  plain : plain_from s depot (walked_over s (position_at c₀ nought) route) ≡ scheduled_of s depot None route
  plain = ap (λ (c : BreakClock). plain_from s depot (walked_over s (position_at c nought) route)) e ∙ plain_walk s depot (Some b) route

  dead_plain : (x y : Option Label) (distance back : Float) → (is_some x || is_some y) ≡ false → unrested x distance back ≡ None
  unfolding unrested
  dead_plain (Some l) y distance back d = absurd (true≢false d)
  dead_plain None y distance back d = refl

  pub gone : (home : Bool) → alive_of (walked_over s (position_at c₀ nought) route).clock ≡ false → None ≡ soonest_of home s depot b route
  unfolding alive_of sooner_of
  gone home d =
      let p = walked_over s (position_at c₀ nought) route in
      let x : scheduled_of s depot (Some b) route ≡ None = sym began ∙ dead_home s depot p d in
      let y : scheduled_of s depot None route ≡ None = sym plain ∙ dead_plain p.clock.before p.clock.after _ _ d in
      rw (x, y) (none home)
    where
      none : (t : Bool) → ◌≡◌ {A = Option Schedule} None (cond t None None)
      none true = refl
      none false = refl

  module _ (c : BreakClock) (distance : Float) (d : walked_over s (position_at c₀ nought) route ≡ position_at c distance) where
    pub home : finish_of (clock_of c) (distance ⊕ distance_of s c.prev depot) (time_of s c.prev depot) ≡ scheduled_of s depot (Some b) route
    unfolding home_from
    home = ap (home_from s depot) (sym d) ∙ began

    kept : c.rest ≡ b
    kept = let z : Some c.rest ≡ Some b = ap (λ (p : Position). p.clock.rest) (sym d) ∙ walked_rest s (position_at c₀ nought) route ∙ ap (λ (k : BreakClock). Some k.rest) e in cc

    placed : c.place ≡ 1 + length route
    placed = ap (λ (p : Position). p.clock.place) (sym d) ∙ walked_place s (position_at c₀ nought) route ∙ ap (λ (k : BreakClock). k.place + length route) e

    pub at_home : sooner_of c.rest c.place (unrested c.before (distance ⊕ distance_of s c.prev depot) (time_of s c.prev depot)) (finish_of (clock_of c) (distance ⊕ distance_of s c.prev depot) (time_of s c.prev depot)) ≡ soonest_of true s depot b route
    at_home = rw (home, kept, placed, ← plain, d) refl
