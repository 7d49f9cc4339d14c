-- A stop of the sheet in f64 is its stop over natural numbers, with a rest before it and without. Assumes nothing.
use Rattle.std.specs.Prelude.{◌≡◌, ℕ, suc, ◌+◌, ◌*◌, ◌≤◌, Bool, true, false, ◌&&◌, ◌||◌, cond, List, ltb, Float, Option, Some, None}
use Rattle.std.proofs.Common.{ap, ◌∙◌, arith}
use Rattle.std.specs.Float.Ieee.{lt, eq}
use Rattle.std.proofs.Math.Bool.{and-false, or-false}
use Rattle.wire.specs.Bytes.{f64_at}
use Rattle.sheet.specs.Fields.{row_at, row_marks, penalty_at, vehicle_at, earliest_at, latest_at, rest_at, marked, most_rows}
use Rattle.sheet.specs.Values.{nought, gate_at, window_at, stop_of, time_of}
use Rattle.sheet.specs.declared.vehicle.VehicleBreak.{VehicleBreak}
use Rattle.evaluation_clock.specs.declared.label.Label.{Label}
use Rattle.evaluation_clock.specs.Sums.{◌⊕◌}
use Rattle.evaluation_clock.specs.Serve.{rested_at, visit_of, later_of, rest_from, serve_of, serve_rested}
use Rattle.evaluation_clock.specs.Clock.{step_of, step_rested, wins_over, earlier_of}
use Rattle.lawful.specs.Whole.{Is}
use Rattle.lawful.specs.Lawful.{Walk, failed, left, time_n, is_windowed, ready_n, due_n, service_n, earliest_n, latest_n, rest_n, rest_begun, arrives, departs, stop_n}
use Rattle.lawful.specs.ClockN.{earlier_n}
use Rattle.lawful.specs.Laws.Whole.{lt_whole, later_whole, add_whole}
use Rattle.lawful.specs.Laws.Amounts.{Amount, RowAmounts, RestAmounts}
use Rattle.lawful.specs.Laws.Windows.{Tracks, Same, Arriving, nought_is, later_upto, pass_same}

-- a vehicle's rest
abbrev pub break_of : List ℕ → ℕ → VehicleBreak
break_of s v = record { earliest = f64_at s (earliest_at (vehicle_at s v)); latest = f64_at s (latest_at (vehicle_at s v)); duration = f64_at s (rest_at (vehicle_at s v)) }

module _ (s : List ℕ) (v i : ℕ) (row : RowAmounts s i) (rest : RestAmounts s v) (n : ℕ) (few : n ≤ most_rows) where
  pub visit_same : (at : ℕ) (l : Label) (arrival : Float) → Is at arrival → Arriving n at → l.lateness_cost ≡ nought
      → Same (suc n) (departs s i (left at)) (visit_of l arrival (stop_of s i))
  unfolding stop_of gate_at
  visit_same at l arrival u h free =
      pass_same n at (ready_n s i) (due_n s i) (service_n s i) few l arrival _ (window_at s (row_at i)) u h row.ready row.due row.service free
      (is_windowed s i) (marked 4 (row_marks s (row_at i))) (f64_at s (penalty_at (row_at i))) row.hard row.unready

  rest_same : (start : ℕ) (l : Label) (place : ℕ) (x : Float) → Is start x → start ≤ 3_000_000_000 * n + 1_000_000_000 → l.lateness_cost ≡ nought
      → Same (suc n) (departs s i (rest_begun (latest_n s v) start (rest_n s v))) (rest_from l (stop_of s i) place (break_of s v) x)
  rest_same start l place x u h free = rw (lt_whole (latest_n s v) start (break_of s v).latest x rest.latest.is u) (go (ltb (latest_n s v) start))
    where
      go : (t : Bool) → Same (suc n) (departs s i (cond t failed (left (start + rest_n s v)))) (cond t None (visit_of (rested_at l place x) (x ⊕ (break_of s v).duration) (stop_of s i)))
      go true = tt
      go false =
          let k = rest.duration.small in
          visit_same (start + rest_n s v) (rested_at l place x) (x ⊕ (break_of s v).duration)
          (add_whole start (rest_n s v) x (break_of s v).duration u rest.duration.is (omega arith)) (omega arith) free

  module _ (t leg : ℕ) (l : Label) (travel : Float) (u : Tracks n t l) (d : Amount leg travel) where
    arriving : t + leg ≤ 3_000_000_000 * n + 1_000_000_000
    arriving = let a = u.early in let b = d.small in omega arith

    pub arrival : Is (t + leg) (l.time ⊕ travel)
    arrival = let a = arriving in add_whole t leg l.time travel u.time d.is (omega arith)

    serve_same : Same (suc n) (departs s i (left (t + leg))) (serve_of l travel (stop_of s i))
    unfolding serve_of
    serve_same = let a = arriving in visit_same (t + leg) l (l.time ⊕ travel) arrival (omega arith) u.cost

    serve_rested_lem : (place : ℕ) → Same (suc n) (departs s i (arrives true s v (t + leg))) (serve_rested l travel (stop_of s i) place (break_of s v))
    unfolding serve_rested
    serve_rested_lem place =
        let e = rest.earliest.small in
        rest_same _ l place (later_of (l.time ⊕ travel) (break_of s v).earliest)
        (later_whole (t + leg) (earliest_n s v) (l.time ⊕ travel) (break_of s v).earliest arrival rest.earliest.is)
        (later_upto (t + leg) (earliest_n s v) (3_000_000_000 * n + 1_000_000_000) arriving (omega arith)) u.cost

  module _ (prev : ℕ) (leg : Amount (time_n s prev i) (time_of s prev i)) where
    pub step_same : (w : Walk) (x : Option Label) → Same n w x → Same (suc n) (stop_n false s v prev i w) (step_of x (time_of s prev i) (stop_of s i))
    unfolding stop_n step_of
    step_same failed None u = tt
    step_same failed (Some l) u = absurd u
    step_same (left t) None u = absurd u
    step_same (left t) (Some l) u = serve_same t (time_n s prev i) l (time_of s prev i) u leg

    pub step_rested_lem : (place : ℕ) (w : Walk) (x : Option Label) → Same n w x → Same (suc n) (stop_n true s v prev i w) (step_rested x (time_of s prev i) (stop_of s i) place (break_of s v))
    unfolding stop_n step_rested
    step_rested_lem place failed None u = tt
    step_rested_lem place failed (Some l) u = absurd u
    step_rested_lem place (left t) None u = absurd u
    step_rested_lem place (left t) (Some l) u = serve_rested_lem t (time_n s prev i) l (time_of s prev i) u leg place

-- ---- the earlier of two: no lateness costs anything, so the time alone decides
ahead_whole : (n a b : ℕ) (x y : Label) → Tracks n a x → Tracks n b y → wins_over y x ≡ ltb b a
ahead_whole n a b x y u v =
    ap (λ (t : Bool). lt y.time x.time || (eq y.time x.time && t)) (rw (u.cost, v.cost) (lt_whole 0 0 nought nought nought_is nought_is))
    ∙ ap (◌||◌ (lt y.time x.time)) (and-false (eq y.time x.time)) ∙ or-false (lt y.time x.time)
    ∙ lt_whole b a y.time x.time v.time u.time

pub earlier_same : (n : ℕ) (w u : Walk) (x y : Option Label) → Same n w x → Same n u y → Same n (earlier_n w u) (earlier_of x y)
unfolding earlier_n earlier_of
earlier_same n failed u None y p q = q
earlier_same n failed u (Some x) y p q = absurd p
earlier_same n (left a) u None y p q = absurd p
earlier_same n (left a) failed (Some x) None p q = p
earlier_same n (left a) failed (Some x) (Some y) p q = absurd q
earlier_same n (left a) (left b) (Some x) None p q = absurd q
earlier_same n (left a) (left b) (Some x) (Some y) p q = rw (ahead_whole n a b x y p q) (go (ltb b a))
  where
    go : (t : Bool) → Same n (cond t (left b) (left a)) (cond t (Some y) (Some x))
    go true = q
    go false = p
