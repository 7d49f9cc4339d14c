-- The f64 walk of a round, and its clock with a rest, are those over natural numbers, where the numbers are whole and no window is soft. Assumes nothing.
use Rattle.std.specs.Prelude.{◌≡◌, ℕ, suc, ◌+◌, ◌*◌, ◌≤◌, ◌<◌, Bool, cond, leb, length, Float, Option, Some, None}
use Rattle.std.proofs.Common.{add_assoc, arith}
use Rattle.std.proofs.Math.Bool.{true, false}
use mathlib.Core.List.{List, [], ◌∷◌}
use Rattle.std.specs.Float.Ieee.{le}
use Rattle.sheet.specs.Fields.{rows_of, vehicles_of, most_rows}
use Rattle.sheet.specs.Accepted.{Accepted}
use Rattle.sheet.specs.Values.{distance_of, time_of, stop_of}
use Rattle.evaluation_clock.specs.declared.label.Label.{Label}
use Rattle.evaluation_clock.specs.Sums.{◌⊕◌}
use Rattle.evaluation_clock.specs.Clock.{step_of, taken_of, moved_of, home_schedule as broughtHome, unrested, end_of, homeward as homewardOf, returned}
use Rattle.evaluation.specs.Walk.{Position, drive_to, walked_over, home_from}
use Rattle.evaluation.specs.Verdict.{home_start}
use Rattle.lawful.specs.Whole.{Whole, Is}
use Rattle.lawful.specs.Lawful.{Walk, failed, left, later, time_n, distance_n, home_of, earliest_n, latest_n, rest_n, stop_n, home_n, walk_n, travel_n}
use Rattle.lawful.specs.ClockN.{push_n, homeward_n, onward_n}
use Rattle.lawful.specs.Laws.Whole.{add_whole, le_whole, later_whole}
use Rattle.lawful.specs.Laws.Amounts.{Amount, RestAmounts, row_amounts, rest_amounts, distance_amount, time_amount}
use Rattle.lawful.specs.Laws.Windows.{Tracks, Same}
use Rattle.lawful.specs.Laws.Stops.{break_of, step_same, step_rested_lem, earlier_same}
use Rattle.sheet.specs.declared.vehicle.VehicleBreak.{VehicleBreak}
use Rattle.evaluation_clock.specs.declared.clock.Schedule.{Schedule}

-- a duration and a distance, and the schedule they stand for
abbrev pub Comes : ℕ → Walk → Option Schedule → Type 0
Comes far failed None = Unit
Comes far failed (Some k) = ⊥
Comes far (left t) None = ⊥
Comes far (left t) (Some k) = Is t k.duration × Is far k.distance

abbrev pub Rows : List ℕ → List ℕ → Type 0
Rows s [] = Unit
Rows s (i ∷ is) = (i < rows_of s) × Rows s is

-- the distance after n legs
pub record Driven (n d : ℕ) (x : Float) : Type 0 where
  pub is : Is d x
  pub near : d ≤ 1_000_000_000 * n

pub drive : (n d leg : ℕ) (x y : Float) → n ≤ most_rows → Driven n d x → Amount leg y → Driven (suc n) (d + leg) (x ⊕ y)
drive n d leg x y few u v =
    let a = u.near in
    let b = v.small in
    record { is = add_whole d leg x y u.is v.is (omega arith); near = omega arith }

-- a position, its row, its labels and its distance given each by itself
abbrev pub position_at : Option VehicleBreak → ℕ → ℕ → Option Label → Option Label → Float → Position
position_at resting place prev x y distance = record { clock = record { rest = resting; before = x; after = y; prev = prev; place = place }; distance = distance }

module _ (s : List ℕ) (v : ℕ) (a : Accepted s) (whole : Whole s) (is-vehicle : v < vehicles_of s) (at_home : home_of s v < rows_of s) where
  rest : RestAmounts s v
  rest = rest_amounts s a whole v is-vehicle

  -- ---- the way home
  module _ (n far prev : ℕ) (few : n ≤ most_rows) (distance : Float) (from : prev < rows_of s) (total : Is far distance) where
    pub home_time : (t : ℕ) (l : Label) → Tracks n t l → Is (t + time_n s prev (home_of s v)) (l.time ⊕ time_of s prev (home_of s v))
    home_time t l u =
        let b = time_amount s a whole prev (home_of s v) from at_home in
        let c = b.small in
        let e = u.early in
        add_whole t (time_n s prev (home_of s v)) l.time (time_of s prev (home_of s v)) u.time b.is (omega arith)

    unrested_home : (w : Walk) (x : Option Label) → Same n w x → Comes far (home_n s v prev w) (unrested x distance (time_of s prev (home_of s v)))
    unfolding unrested
    unrested_home failed None u = tt
    unrested_home failed (Some l) u = absurd u
    unrested_home (left t) None u = absurd u
    unrested_home (left t) (Some l) u = (home_time t l u, total)

    rested_home_lem : (w : Walk) (x : Option Label) → Same n w x → Comes far (home_n s v prev w) (end_of x distance (time_of s prev (home_of s v)))
    unfolding end_of
    rested_home_lem failed None u = tt
    rested_home_lem failed (Some l) u = absurd u
    rested_home_lem (left t) None u = absurd u
    rested_home_lem (left t) (Some l) u = (home_time t l u, total)

    clock_home : (w z : Walk) (x y : Option Label) → Same n w x → Same n z y
        → Comes far (homeward_n s v (home_n s v prev w) (home_n s v prev z)) (homewardOf (break_of s v) x y distance (time_of s prev (home_of s v)))
    unfolding homewardOf
    clock_home failed z None y p q = rested_home_lem z y q
    clock_home failed z (Some l) y p q = absurd p
    clock_home (left t) z None y p q = absurd p
    clock_home (left t) z (Some l) y p q =
        rw (le_whole (t + time_n s prev (home_of s v)) (earliest_n s v) (l.time ⊕ time_of s prev (home_of s v)) (break_of s v).earliest (home_time t l p) rest.earliest.is) (go (leb (t + time_n s prev (home_of s v)) (earliest_n s v)))
      where
        go : (b : Bool) → Comes far (cond b (left (t + time_n s prev (home_of s v))) (home_n s v prev z)) (cond b (Some (broughtHome l distance (time_of s prev (home_of s v)) None)) (end_of y distance (time_of s prev (home_of s v))))
        go true = (home_time t l p, total)
        go false = rested_home_lem z y q

  -- ---- a rest at home, after a return at `back`
  module _ (t : ℕ) (back : Float) (u : Is t back) where
    pub home_starts : Is (later t (earliest_n s v)) (home_start (break_of s v) back)
    home_starts = later_whole t (earliest_n s v) back (break_of s v).earliest u rest.earliest.is

    pub home_by : le (home_start (break_of s v) back) (break_of s v).latest ≡ leb (later t (earliest_n s v)) (latest_n s v)
    home_by = le_whole (later t (earliest_n s v)) (latest_n s v) (home_start (break_of s v) back) (break_of s v).latest home_starts rest.latest.is

    -- it starts no later than latest, so that its end is exact
    pub home_ends : later t (earliest_n s v) ≤ latest_n s v → Is (later t (earliest_n s v) + rest_n s v) (home_start (break_of s v) back ⊕ (break_of s v).duration)
    home_ends h =
        let a = rest.latest.small in
        let b = rest.duration.small in
        add_whole (later t (earliest_n s v)) (rest_n s v) (home_start (break_of s v) back) (break_of s v).duration home_starts rest.duration.is (omega arith)

  -- ---- the walk
  -- without a rest
  pub walk_comes : (n d place prev : ℕ) (w : Walk) (x y : Option Label) (distance : Float) (is : List ℕ) → n + length is ≤ most_rows → prev < rows_of s → Rows s is
      → Same n w x → Driven n d distance → Comes (d + travel_n s v prev is) (walk_n s v 0 w prev is) (home_from s (home_of s v) (walked_over s (position_at None place prev x y distance) is))
  unfolding walk_n home_from returned drive_to moved_of taken_of travel_n
  walk_comes n d place prev w x y distance [] few from rows u r =
      unrested_home n _ prev (omega arith) _ from (drive n d (distance_n s prev (home_of s v)) distance _ (omega arith) r (distance_amount s a whole prev (home_of s v) from at_home)).is w x u
  walk_comes n d place prev w x y distance (i ∷ is) few from rows u r =
      rw (← add_assoc)
      (walk_comes (suc n) (d + distance_n s prev i) (place + 1) i (stop_n false s v prev i w) (step_of x (time_of s prev i) (stop_of s i)) None (distance ⊕ distance_of s prev i) is
      (omega arith) rows.0 rows.1
      (step_same s v i (row_amounts s a whole i rows.0) rest n (omega arith) prev (time_amount s a whole prev i from rows.0) w x u)
      (drive n d (distance_n s prev i) distance (distance_of s prev i) (omega arith) r (distance_amount s a whole prev i from rows.0)))

  -- with a rest
  pub clock_comes : (n d place prev : ℕ) (w z : Walk) (x y : Option Label) (distance : Float) (is : List ℕ) → n + length is ≤ most_rows → prev < rows_of s → Rows s is
      → Same n w x → Same n z y → Driven n d distance
      → Comes (d + travel_n s v prev is) (onward_n s v (record { before = w; after = z }) prev is) (home_from s (home_of s v) (walked_over s (position_at (Some (break_of s v)) place prev x y distance) is))
  unfolding onward_n push_n home_from returned drive_to moved_of taken_of travel_n
  clock_comes n d place prev w z x y distance [] few from rows p q r =
      clock_home n _ prev (omega arith) _ from (drive n d (distance_n s prev (home_of s v)) distance _ (omega arith) r (distance_amount s a whole prev (home_of s v) from at_home)).is w z x y p q
  clock_comes n d place prev w z x y distance (i ∷ is) few from rows p q r =
      let leg = time_amount s a whole prev i from rows.0 in
      let row = row_amounts s a whole i rows.0 in
      let skip = step_same s v i row rest n (omega arith) prev leg in
      let c = push_n s v prev i (record { before = w; after = z }) in
      rw (← add_assoc)
      (clock_comes (suc n) (d + distance_n s prev i) (place + 1) i c.before c.after (step_of x (time_of s prev i) (stop_of s i)) (taken_of (Some (break_of s v)) x y (time_of s prev i) (stop_of s i) place) (distance ⊕ distance_of s prev i) is
      (omega arith) rows.0 rows.1 (skip w x p)
      (earlier_same (suc n) _ _ _ _ (skip z y q) (step_rested_lem s v i row rest n (omega arith) prev leg place w x p))
      (drive n d (distance_n s prev i) distance (distance_of s prev i) (omega arith) r (distance_amount s a whole prev i from rows.0)))
