-- What `route_feasible` means: on an accepted sheet with whole numbers and no window with a penalty, that the round has a lawful schedule. Assumes nothing.
use Rattle.std.specs.Prelude.{◌≡◌, Bool, true, false, ◌&&◌, ◌||◌, cond, List, [], ◌∷◌, ltb, leb, length, get_or, Float, Option, Some, None}
use Rattle.std.proofs.Math.Path.{refl, sym, ap}
use Rattle.std.proofs.Common.{◌∙◌, arith, ltb-true, ltb-false, le-leb}
use Prim.Native.Nat.{ℕ, suc, ◌+◌, ◌^◌, ◌<◌, zero-le, suc-le-suc}
use Rattle.std.proofs.Math.Nat.{zero-add}
use Rattle.std.proofs.lemmas.Bool.{lt-leb}
use Rattle.wire.specs.Bytes.{f64_at}
use Rattle.numbers.specs.Laws.Upto.{Upto}
use Rattle.sheet.specs.Fields.{rows_of, vehicles_of, row_at, row_marks, penalty_at, vehicle_at, vehicle_marks, max_distance_at, max_duration_at, marked}
use Rattle.sheet.specs.Laws.Finite.{vehicle_finite, vehicle_bounded}
use Rattle.sheet.specs.declared.customer.Window.{Window}
use Rattle.sheet.specs.declared.vehicle.VehicleBreak.{VehicleBreak}
use Rattle.sheet.specs.Values.{rests_home_at, nought, gate_of, window_at, gate_at, stop_of, limit_of, limit_at, rest_of, rest_after, vehicle_of}
use Rattle.evaluation.specs.declared.limits.RouteLimits.{RouteLimits}
use Rattle.evaluation.specs.Routed.{Routed}
use Rattle.evaluation_clock.specs.Sums.{◌⊕◌}
use Rattle.evaluation_clock.specs.Serve.{at_depot}
use Rattle.evaluation.specs.Limits.{latest_return, limits_at, within_of, allow_of}
use Rattle.evaluation.specs.Laws.Limits.{limits_home, limits_rest, return_of, limits_allow, lower_within, return_bounded}
use Rattle.evaluation.specs.Walk.{scheduled_of}
use Rattle.evaluation.specs.Verdict.{Verdict, allowed, over_limit, no_schedule, held_to, home_start, mends, rested_home, mended_by, or_home, is_feasible}
use Rattle.evaluation.specs.Feasible.{route_feasible}
use Rattle.evaluation.specs.Laws.Verdict.{verdict_scheduled, restless_home, held_none, held_passes}
use Rattle.lawful.specs.Whole.{Whole, Is}
use Rattle.lawful.specs.Lawful.{Walk, failed, left, later, due_n, home_of, rests, earliest_n, latest_n, rest_n, travel_n, not_over, keeps_maxima, duration_n, plain_walk, rested_at_home, home_place, lawful}
use Rattle.lawful.specs.ClockN.{start_n, onward_n, feasible_n}
use Rattle.lawful.specs.Laws.Decides.{lawful_feasible}
use Rattle.lawful.specs.Laws.Whole.{le_whole, is_upto, le_maximum}
use Rattle.lawful.specs.Laws.Amounts.{row_amounts}
use Rattle.lawful.specs.Laws.Windows.{Same, nought_is}
use Rattle.lawful.specs.Laws.Stops.{break_of}
use Rattle.lawful.specs.Laws.Rounds.{Comes, Rows, Driven, home_by, home_ends, walk_comes, clock_comes}
use Rattle.evaluation_clock.specs.declared.clock.Schedule.{Schedule}

-- the rows of a round, one after the other
pub rows_of_lem : (s is : List ℕ) → ((k : ℕ) → k < length is → get_or is k 0 < rows_of s) → Rows s is
rows_of_lem s [] f = tt
rows_of_lem s (i ∷ is) f = (f 0 (suc-le-suc zero-le), rows_of_lem s is (λ k h. f (suc k) (suc-le-suc h)))

-- a maximum: as the Rust compares it, and as a natural number is compared
within_whole : (mark : Bool) (n : ℕ) (x end : Float) → Is n x → Upto (10 ^ 12) end → within_of (limit_of mark end) x ≡ cond mark (not_over n end) true
within_whole true n x end u v = le_maximum (10 ^ 12) n x end u v
within_whole false n x end u v = refl

-- the depot's due likewise, whatever the penalty of its row
return_whole : (window penalty : Bool) (w : Window) (dear : Float) (n due : ℕ) (x : Float) → Is n x → Is due w.due → within_of (latest_return (gate_of window penalty w dear)) x ≡ cond window (leb n due) true
return_whole false penalty w dear n due x u v = refl
return_whole true false w dear n due x u v = le_whole n due x w.due u v
return_whole true true w dear n due x u v = le_whole n due x w.due u v

-- whether the rest at home mends a schedule without one
abbrev fits_home : RouteLimits → VehicleBreak → Option Schedule → Bool
fits_home limits b None = false
fits_home limits b (Some k) = mends limits b k.distance k.duration

-- it is asked only where the round is turned down, which leaves the answer as if both were asked
or_home_lem : (limits : RouteLimits) (b : VehicleBreak) (place : ℕ) (plain : Option Schedule) (v : Verdict) → is_feasible (or_home limits (Some b) place plain v) ≡ (is_feasible v || cond limits.at_home (fits_home limits b plain) false)
unfolding or_home
or_home_lem limits b place plain v = go v
  where
    by : (x : Option Schedule) (v : Verdict) → is_feasible v ≡ false → is_feasible (mended_by limits b place x v) ≡ fits_home limits b x
    by None v e = e
    by (Some k) v e = fit (mends limits b k.distance k.duration)
      where
        fit : (t : Bool) → is_feasible (cond t (allowed (rested_home b place k)) v) ≡ t
        fit true = refl
        fit false = e

    home : (t : Bool) (v : Verdict) → is_feasible v ≡ false → is_feasible (cond t (mended_by limits b place plain v) v) ≡ cond t (fits_home limits b plain) false
    home true v e = by plain v e
    home false v e = e

    go : (v : Verdict) → is_feasible (or_home limits (Some b) place plain v) ≡ (is_feasible v || cond limits.at_home (fits_home limits b plain) false)
    go (allowed k) = refl
    go (over_limit k) = home limits.at_home (over_limit k) refl
    go no_schedule = home limits.at_home no_schedule refl

module _ (s : List ℕ) (v : ℕ) (is : List ℕ) (whole : Whole s) (is-vehicle : v < vehicles_of s) (round : Routed s (home_of s v) is) where
  -- the limits, of figures that are whole
  allow_whole : (t : ℕ) (distance duration : Float) → Is t duration → Is (travel_n s v (home_of s v) is) distance → allow_of (limits_at s v) distance duration ≡ keeps_maxima s v is (left t)
  unfolding vehicle_of limit_at stop_of gate_at
  allow_whole t distance duration u d =
      let f = vehicle_finite s (vehicle_at s v) (round.sheet.vehicle v is-vehicle) in
      let at = vehicle_at s v in
      let mark = vehicle_marks s at in
      let home = row_at (home_of s v) in
      limits_allow s v distance duration
      ∙ rw (
        lower_within (vehicle_of s v).max_duration (return_of s v) t duration (vehicle_bounded s round.sheet v is-vehicle).duration (return_bounded s v round.sheet round.home) (is_upto t duration u),
        within_whole (marked 1 mark) (travel_n s v (home_of s v) is) distance (f64_at s (max_distance_at at)) d f.distance,
        within_whole (marked 2 mark) t duration (f64_at s (max_duration_at at)) u f.duration,
        return_whole (marked 2 (row_marks s home)) (marked 4 (row_marks s home)) (window_at s home) (f64_at s (penalty_at home)) t (due_n s (home_of s v)) duration u (row_amounts s round.sheet whole (home_of s v) round.home).due.is,
      )

  kept_whole : (w : Walk) (x : Option Schedule) → Comes (travel_n s v (home_of s v) is) w x → is_feasible (held_to (limits_at s v) x) ≡ keeps_maxima s v is w
  kept_whole failed None u = ap is_feasible (held_none (limits_at s v))
  kept_whole failed (Some k) u = absurd u
  kept_whole (left t) None u = absurd u
  kept_whole (left t) (Some k) u = held_passes (limits_at s v) k ∙ allow_whole t k.distance k.duration u.0 u.1

  -- a rest at home
  home_whole : (w : Walk) (x : Option Schedule) → Comes (travel_n s v (home_of s v) is) w x → fits_home (limits_at s v) (break_of s v) x ≡ keeps_maxima s v is (rested_at_home s v w)
  unfolding mends
  home_whole failed None u = refl
  home_whole failed (Some k) u = absurd u
  home_whole (left t) None u = absurd u
  home_whole (left t) (Some k) u = rw (home_by s v round.sheet whole is-vehicle round.home t k.duration u.0) (go (ltb (latest_n s v) begins) refl)
    where
      begins : ℕ
      begins = later t (earliest_n s v)

      go : (late : Bool) → ltb (latest_n s v) begins ≡ late
          → (leb begins (latest_n s v) && allow_of (limits_at s v) k.distance (home_start (break_of s v) k.duration ⊕ (break_of s v).duration)) ≡ keeps_maxima s v is (cond late failed (left (begins + rest_n s v)))
      go true e = rw (lt-leb begins (latest_n s v) (ltb-true (latest_n s v) begins e)) refl
      go false e =
          let soon = ltb-false (latest_n s v) begins e in
          rw (le-leb begins (latest_n s v) soon)
          (allow_whole (begins + rest_n s v) k.distance _ (home_ends s v round.sheet whole is-vehicle round.home t k.duration u.0 soon) u.1)

  -- "It leaves the vehicle's depot at 0."
  pub start : Same 0 (left 0) (Some at_depot)
  start = record { time = nought_is; early = zero-le; cost = refl }

  pub undriven : Driven 0 0 nought
  undriven = record { is = nought_is; near = zero-le }

  pub unrested_comes : Comes (travel_n s v (home_of s v) is) (duration_n s v 0 is) (scheduled_of s (home_of s v) None is)
  unfolding scheduled_of
  unrested_comes =
      rw zero-add at (walk_comes s v round.sheet whole is-vehicle round.home 0 0 1 (home_of s v) (left 0) (Some at_depot) None nought is
      (omega (arith, round.few)) round.home (rows_of_lem s is round.row) start undriven)

  clock_whole : is_feasible (held_to (limits_at s v) (scheduled_of s (home_of s v) (Some (break_of s v)) is)) ≡ keeps_maxima s v is (onward_n s v start_n (home_of s v) is)
  unfolding scheduled_of
  clock_whole =
      kept_whole (onward_n s v start_n (home_of s v) is) _
      (rw zero-add at (clock_comes s v round.sheet whole is-vehicle round.home 0 0 1 (home_of s v) (left 0) failed (Some at_depot) None nought is
      (omega (arith, round.few)) round.home (rows_of_lem s is round.row) start tt undriven))

  -- route_feasible of a round for a vehicle, both ways
  pub feasible_lawful : route_feasible s (home_of s v) (limits_at s v) is ≡ lawful s v is
  unfolding route_feasible feasible_n vehicle_of rest_after rests_home_at
  feasible_lawful = ap is_feasible (verdict_scheduled s (home_of s v) (limits_at s v) is) ∙ ap verdict_by (limits_rest s v) ∙ go (rests s v) ∙ sym (lawful_feasible s v is)
    where
      plain : Option Schedule
      plain = scheduled_of s (home_of s v) None is

      verdict_by : Option VehicleBreak → Bool
      verdict_by r = is_feasible (or_home (limits_at s v) r (1 + length is) plain (held_to (limits_at s v) (scheduled_of s (home_of s v) r is)))

      go : (mark : Bool) → verdict_by (rest_of mark (break_of s v)) ≡ cond mark (keeps_maxima s v is (onward_n s v start_n (home_of s v) is) || home_place s v is) (plain_walk s v is)
      go true =
          or_home_lem (limits_at s v) (break_of s v) (1 + length is) plain (held_to (limits_at s v) (scheduled_of s (home_of s v) (Some (break_of s v)) is))
          ∙ ap (λ home. is_feasible (held_to (limits_at s v) (scheduled_of s (home_of s v) (Some (break_of s v)) is)) || cond home (fits_home (limits_at s v) (break_of s v) plain) false) (limits_home s v)
          ∙ rw (clock_whole, home_whole (duration_n s v 0 is) plain unrested_comes)
      go false = ap is_feasible (restless_home (limits_at s v) None (1 + length is) plain (held_to (limits_at s v) plain) refl) ∙ kept_whole (duration_n s v 0 is) plain unrested_comes
