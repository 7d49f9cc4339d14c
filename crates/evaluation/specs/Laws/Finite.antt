-- On an accepted sheet every figure of a round is finite, not negative and no NaN, so that it can be compared and written. Assumes nothing.
use Rattle.std.specs.Prelude.{◌≡◌, refl, ℕ, suc, ◌+◌, ◌*◌, ◌^◌, ◌≤◌, ◌<◌, Bool, not, cond, T, get_or, Float, Option, Some, None}
use Rattle.std.proofs.Common.{sym, suc-le-suc, zero-lt-suc, le_trans, le_of_eq, mul_right_comm, mul-le-mul_right, le_of_mul-le-mul_right, arith}
use Rattle.std.proofs.Math.Path.{subst}
use Rattle.std.proofs.Math.Bool.{true, false}
use mathlib.Core.List.{List, [], ◌∷◌}
use Rattle.std.proofs.Math.ListN.{length}
use Rattle.std.specs.Float.{nan, inf, fin}
use Rattle.std.specs.Float.Ieee.{up, down, lt, le, is_nan}
use Rattle.std.specs.Float.Ieee.Fits.{down_pos, and_l}
use Rattle.numbers.specs.Laws.Upto.{Upto, widen, exact_scaled, add_upto, add_units, no_nan, or_le}
use Rattle.numbers.specs.Laws.Range.{zero_upto}
use Rattle.sheet.specs.Fields.{rows_of}
use Rattle.sheet.specs.Accepted.{Accepted}
use Rattle.sheet.specs.Laws.Finite.{StopBounded, BreakBounded, RestBounded, stop_bounded, distance_bounded, time_bounded}
use Rattle.sheet.specs.Values.{stop_of, distance_of, time_of}
use Rattle.sheet.specs.declared.customer.Stop.{Stop}
use Rattle.sheet.specs.declared.vehicle.VehicleBreak.{VehicleBreak}
use Rattle.evaluation_clock.specs.RestAnswer.{RestAnswer}
use Rattle.evaluation_clock.specs.declared.label.Label.{Label}
use Rattle.evaluation_clock.specs.declared.clock.Schedule.{Schedule}
use Rattle.evaluation.specs.declared.limits.RouteLimits.{RouteLimits}
use Rattle.evaluation_clock.specs.Sums.{◌⊕◌}
use Rattle.evaluation.specs.Routed.{Routed}
use Rattle.evaluation_clock.specs.Serve.{rest_start, later_of, at_depot}
use Rattle.evaluation_clock.specs.Clock.{Clock, step_of, step_rested, wins_over, earlier_of, taken_of, moved_of, home_schedule, unrested, end_of, homeward, returned}
use Rattle.evaluation.specs.Walk.{Position, start_at, drive_to, walked_over, home_from, scheduled_of}
use Rattle.evaluation.specs.Limits.{allow_of}
use Rattle.evaluation.specs.Verdict.{Verdict, allowed, over_limit, no_schedule, held_to, home_start, mends, rested_home, mended_by, mended, or_home, eval_of}
use Rattle.evaluation.specs.Feasible.{route_eval, priced_distance, cost_of, effective_cost}
use Rattle.evaluation.specs.Laws.Verdict.{verdict_scheduled}
use Rattle.evaluation_clock.specs.Laws.Bounds.{Times, one_time, AnswerBounded, LabelBounded, ServedBounded, serve_bounded, rested_bounded}

-- ---- one stop of the clock
pub step_bounded : (a b : ℕ) (x : Option Label) (travel : Float) (s : Stop) → a ≤ 996 → b + 1000 < 2 ^ 40 → ServedBounded a b x → Times 1 travel → StopBounded s → ServedBounded (a + 4) (b + 1000) (step_of x travel s)
unfolding step_of
step_bounded a b (Some l) travel s h k ok leg sok = serve_bounded a b l travel s h k ok leg sok
step_bounded a b None travel s h k ok leg sok = tt

step_rested_bounded : (a b : ℕ) (x : Option Label) (travel : Float) (s : Stop) (place : ℕ) (r : VehicleBreak) → a ≤ 996 → b + 1000 < 2 ^ 40 → ServedBounded a b x → Times 1 travel → StopBounded s → BreakBounded r
    → ServedBounded (a + 4) (b + 1000) (step_rested x travel s place r)
unfolding step_rested
step_rested_bounded a b (Some l) travel s place r h k ok leg sok rok = rested_bounded a b l travel s h k ok leg sok place r rok
step_rested_bounded a b None travel s place r h k ok leg sok rok = tt

earlier_bounded : (a b : ℕ) (x y : Option Label) → ServedBounded a b x → ServedBounded a b y → ServedBounded a b (earlier_of x y)
unfolding earlier_of
earlier_bounded a b None y u v = v
earlier_bounded a b (Some x) None u v = u
earlier_bounded a b (Some x) (Some y) u v = go (wins_over y x)
  where
    go : (t : Bool) → ServedBounded a b (cond t (Some y) (Some x))
    go true = v
    go false = u

taken_bounded : (a b : ℕ) (r : Option VehicleBreak) (x y : Option Label) (travel : Float) (s : Stop) (place : ℕ) → a ≤ 996 → b + 1000 < 2 ^ 40 → RestBounded r → ServedBounded a b x → ServedBounded a b y → Times 1 travel → StopBounded s
    → ServedBounded (a + 4) (b + 1000) (taken_of r x y travel s place)
unfolding taken_of
taken_bounded a b None x y travel s place h k rok u v leg sok = tt
taken_bounded a b (Some r) x y travel s place h k rok u v leg sok =
    earlier_bounded (a + 4) (b + 1000) (step_of y travel s) (step_rested x travel s place r)
    (step_bounded a b y travel s h k v leg sok) (step_rested_bounded a b x travel s place r h k u leg sok rok)

pub record ClockBounded (a b : ℕ) (c : Clock) : Type 0 where
  pub rest : RestBounded c.rest
  pub before : ServedBounded a b c.before
  pub after : ServedBounded a b c.after

pub moved_bounded : (a b : ℕ) (c : Clock) (travel : Float) (s : Stop) (row : ℕ) → a ≤ 996 → b + 1000 < 2 ^ 40 → ClockBounded a b c → Times 1 travel → StopBounded s → ClockBounded (a + 4) (b + 1000) (moved_of c travel s row)
unfolding moved_of
moved_bounded a b c travel s row h k ok leg sok = record {
  rest = ok.rest;
  before = step_bounded a b c.before travel s h k ok.before leg sok;
  after = taken_bounded a b c.rest c.before c.after travel s c.place h k ok.rest ok.before ok.after leg sok;
}

-- ---- what a round comes to
pub record ScheduleBounded (k : Schedule) : Type 0 where
  pub distance : Upto (2 ^ 40) k.distance
  pub duration : Upto (2 ^ 40) k.duration
  pub lateness : Upto (2 ^ 47) k.lateness
  pub cost : Upto (2 ^ 67) k.lateness_cost
  pub rest : Upto (2 ^ 40) (rest_start k.rest)

abbrev pub ScheduledBounded : Option Schedule → Type 0
ScheduledBounded (Some k) = ScheduleBounded k
ScheduledBounded None = Unit

-- at most 101 stops: fewer than a thousand times, and late by fewer than 2 ^ 17 of them
module _ (a b n : ℕ) (distance back : Float) (h : a < 1000) (k : b ≤ 2 ^ 17) (m : n ≤ 1000) (far : Times n distance) (leg : Times 1 back) where
  start_upto : (r : RestAnswer) → AnswerBounded a r → Upto (2 ^ 40) (rest_start r)
  start_upto None u = zero_upto (2 ^ 40)
  start_upto (Some (place, x)) u = widen (a * 2 ^ 30) (2 ^ 40) x (omega arith) u

  home_bounded : (l : Label) (r : RestAnswer) → LabelBounded a b l → AnswerBounded a r → ScheduleBounded (home_schedule l distance back r)
  home_bounded l r ok rok = record {
    distance = widen (n * 2 ^ 30) (2 ^ 40) distance (omega arith) far;
    duration = widen ((a + 1) * 2 ^ 30) (2 ^ 40) (l.time ⊕ back) (omega arith) (add_units 30 a 1 l.time back (omega arith) (omega arith) ok.time leg);
    lateness = widen (b * 2 ^ 30) (2 ^ 47) l.lateness (omega arith) ok.lateness;
    cost = widen (b * 2 ^ 50) (2 ^ 67) l.lateness_cost (omega arith) ok.cost;
    rest = start_upto r rok;
  }

  unrested_bounded : (x : Option Label) → ServedBounded a b x → ScheduledBounded (unrested x distance back)
  unfolding unrested
  unrested_bounded (Some l) ok = home_bounded l None ok tt
  unrested_bounded None ok = tt

  end_bounded : (x : Option Label) → ServedBounded a b x → ScheduledBounded (end_of x distance back)
  unfolding end_of
  end_bounded (Some l) ok = home_bounded l l.rest ok ok.rest
  end_bounded None ok = tt

  homeward_bounded : (r : VehicleBreak) (x y : Option Label) → ServedBounded a b x → ServedBounded a b y → ScheduledBounded (homeward r x y distance back)
  unfolding homeward
  homeward_bounded r None y u v = end_bounded y v
  homeward_bounded r (Some l) y u v = go (le (l.time ⊕ back) r.earliest)
    where
      go : (t : Bool) → ScheduledBounded (cond t (Some (home_schedule l distance back None)) (end_of y distance back))
      go true = home_bounded l None u tt
      go false = end_bounded y v

  returned_bounded : (r : Option VehicleBreak) (x y : Option Label) → ServedBounded a b x → ServedBounded a b y → ScheduledBounded (returned r x y distance back)
  unfolding returned
  returned_bounded None x y u v = unrested_bounded x u
  returned_bounded (Some r) x y u v = homeward_bounded r x y u v

pub start_bounded : LabelBounded 0 0 at_depot
start_bounded = record { time = zero_upto (0 * 2 ^ 30); lateness = zero_upto (0 * 2 ^ 30); cost = zero_upto (0 * 2 ^ 50); rest = tt }

-- ---- the walk
module _ (s : List ℕ) (depot : ℕ) (fine : Accepted s) (D : depot < rows_of s) where
  leg_time : (i j : ℕ) → i < rows_of s → j < rows_of s → Times 1 (time_of s i j)
  leg_time i j h k = one_time (time_of s i j) (time_bounded s fine i j h k)

  -- the distance with one leg more
  further : (n : ℕ) (distance : Float) (i j : ℕ) → n < 1000 → i < rows_of s → j < rows_of s → Times n distance → Times (n + 1) (distance ⊕ distance_of s i j)
  further n distance i j l h k u = add_units 30 n 1 distance (distance_of s i j) (omega arith) (omega arith) u (one_time (distance_of s i j) (distance_bounded s fine i j h k))

  walked_bounded : (rows : List ℕ) (a b n : ℕ) (p : Position) → a + 4 * length rows < 1000 → b + 1000 * length rows ≤ 2 ^ 17 → n + length rows < 1000
      → ((k : ℕ) → k < length rows → get_or rows k 0 < rows_of s) → p.clock.prev < rows_of s → ClockBounded a b p.clock → Times n p.distance
      → ScheduledBounded (home_from s depot (walked_over s p rows))
  unfolding home_from drive_to moved_of
  walked_bounded [] a b n p h k m inside from ok far =
      let prev = p.clock.prev in
      returned_bounded a b (n + 1) (p.distance ⊕ distance_of s prev depot) (time_of s prev depot) (omega arith) (omega arith) (omega arith)
      (further n p.distance prev depot (omega arith) from D far) (leg_time prev depot from D) p.clock.rest p.clock.before p.clock.after ok.before ok.after
  walked_bounded (row ∷ rows) a b n p h k m inside from ok far =
      let prev = p.clock.prev in
      let here = inside 0 (zero-lt-suc (length rows)) in
      walked_bounded rows (a + 4) (b + 1000) (n + 1) (drive_to s p row) (omega arith) (omega arith) (omega arith)
      (λ i l. inside (suc i) (suc-le-suc l)) here
      (moved_bounded a b p.clock (time_of s prev row) (stop_of s row) row (omega arith) (omega arith) ok (leg_time prev row from here) (stop_bounded s fine row here))
      (further n p.distance prev row (omega arith) from here far)

abbrev pub EvalBounded : Option Schedule → Type 0
EvalBounded (Some k) = ScheduleBounded k
EvalBounded None = Unit

pub priced_bounded : (k : Schedule) → ScheduleBounded k → Upto (2 ^ 68) (priced_distance k)
priced_bounded k ok =
    add_upto (2 ^ 40) (2 ^ 67) (2 ^ 68) k.distance k.lateness_cost ok.distance ok.cost (omega arith) (exact_scaled 1 68 (omega arith) (omega arith))

cost_of_number : (e : Option Schedule) → EvalBounded e → T (not (is_nan (cost_of e)))
unfolding cost_of is_nan
cost_of_number (Some k) ok = no_nan (2 ^ 68) (priced_distance k) (priced_bounded k ok)
cost_of_number None ok = tt

-- ---- with the rest at home
le_upto : (m n : ℕ) (x y : Float) → Upto m x → Upto n y → T (le x y) → Upto n x
unfolding le
le_upto m n nan y u v h = absurd u
le_upto m n (inf s) y u v h = absurd u
le_upto m n (fin true a e) y u v h = absurd u
le_upto m n (fin false a e) nan u v h = absurd v
le_upto m n (fin false a e) (inf t) u v h = absurd v
le_upto m n (fin false a e) (fin true c d) u v h = absurd v
le_upto m n (fin false a e) (fin false c d) u v h =
    le_of_mul-le-mul_right {k = down d}
    (le_trans (or_le (a * up e * down d) (c * up d * down e) h) (le_trans (mul-le-mul_right (down e) v) (le_of_eq (mul_right_comm n (down d) (down e)))))
    (down_pos d)

later_upto : (n : ℕ) (x y : Float) → Upto n x → Upto n y → Upto n (later_of x y)
later_upto n x y u v = go (lt x y)
  where
    go : (t : Bool) → Upto n (cond t y x)
    go true = v
    go false = u

pub mended_bounded : (limits : RouteLimits) (b : VehicleBreak) (place : ℕ) (k : Schedule) → BreakBounded b → ScheduleBounded k → mends limits b k.distance k.duration ≡ true → ScheduleBounded (rested_home b place k)
unfolding mends
mended_bounded limits b place k r ok e =
    let start = home_start b k.duration in
    let l = and_l (le start b.latest) (allow_of limits k.distance (start ⊕ b.duration)) (subst T (sym e) tt) in
    let u : Upto (10 ^ 9) start = le_upto (2 ^ 40) (10 ^ 9) start b.latest (later_upto (2 ^ 40) k.duration b.earliest ok.duration (widen (10 ^ 9) (2 ^ 40) b.earliest (omega arith) r.earliest)) r.latest l in
    record {
      distance = ok.distance;
      duration = add_upto (10 ^ 9) (10 ^ 9) (2 ^ 40) start b.duration u r.duration (omega arith) (exact_scaled 1 40 (omega arith) (omega arith));
      lateness = ok.lateness;
      cost = ok.cost;
      rest = widen (10 ^ 9) (2 ^ 40) start (omega arith) u;
    }

-- ---- a round of an accepted sheet, for a vehicle whose rest is in range, as `vehicle_bounded` has it
module _ (s : List ℕ) (depot : ℕ) (route : List ℕ) (ok : Routed s depot route) where
  pub scheduled_bounded : (rest : Option VehicleBreak) → RestBounded rest → ScheduledBounded (scheduled_of s depot rest route)
  unfolding scheduled_of
  scheduled_bounded rest u =
      walked_bounded s depot ok.sheet ok.home route 0 0 0 (start_at rest depot) (omega (arith, ok.few)) (omega (arith, ok.few)) (omega (arith, ok.few)) ok.row ok.home
      (record { rest = u; before = start_bounded; after = tt }) (zero_upto (0 * 2 ^ 30))

  held_bounded : (limits : RouteLimits) (x : Option Schedule) → ScheduledBounded x → EvalBounded (eval_of (held_to limits x))
  unfolding held_to
  held_bounded limits None u = tt
  held_bounded limits (Some k) u = go (allow_of limits k.distance k.duration)
    where
      go : (t : Bool) → EvalBounded (eval_of (cond t (allowed k) (over_limit k)))
      go true = u
      go false = tt

  home_bounded_by : (limits : RouteLimits) (place : ℕ) (v : Verdict) → EvalBounded (eval_of v) → (rest : Option VehicleBreak) → RestBounded rest → (plain : Option Schedule) → ScheduledBounded plain → EvalBounded (eval_of (mended limits rest place plain v))
  home_bounded_by limits place v u None r plain w = u
  home_bounded_by limits place v u (Some b) r plain w = marked limits.at_home
    where
      fit : (k : Schedule) → ScheduleBounded k → (t : Bool) → mends limits b k.distance k.duration ≡ t → EvalBounded (eval_of (cond t (allowed (rested_home b place k)) v))
      fit k ok true e = mended_bounded limits b place k r ok e
      fit k ok false e = u

      walked : (x : Option Schedule) → ScheduledBounded x → EvalBounded (eval_of (mended_by limits b place x v))
      walked None ok = u
      walked (Some k) ok = fit k ok (mends limits b k.distance k.duration) refl

      marked : (t : Bool) → EvalBounded (eval_of (cond t (mended_by limits b place plain v) v))
      marked true = walked plain w
      marked false = u

  or_home_bounded : (limits : RouteLimits) (rest : Option VehicleBreak) (place : ℕ) (plain : Option Schedule) (v : Verdict) → EvalBounded (eval_of v) → RestBounded rest → ScheduledBounded plain → EvalBounded (eval_of (or_home limits rest place plain v))
  unfolding or_home
  or_home_bounded limits rest place plain (allowed k) u r w = u
  or_home_bounded limits rest place plain (over_limit k) u r w = home_bounded_by limits place (over_limit k) u rest r plain w
  or_home_bounded limits rest place plain no_schedule u r w = home_bounded_by limits place no_schedule u rest r plain w

  pub eval_bounded : (limits : RouteLimits) → RestBounded limits.rest → EvalBounded (route_eval s depot limits route)
  unfolding route_eval
  eval_bounded limits u =
      subst (λ (v : Verdict). EvalBounded (eval_of v)) (sym (verdict_scheduled s depot limits route))
      (or_home_bounded limits limits.rest (1 + length route) (scheduled_of s depot None route) (held_to limits (scheduled_of s depot limits.rest route))
      (held_bounded limits (scheduled_of s depot limits.rest route) (scheduled_bounded limits.rest u)) u (scheduled_bounded None tt))

  -- an effective cost can be compared: it is a number, or the infinity of a round that is not allowed
  pub cost_number : (limits : RouteLimits) → RestBounded limits.rest → T (not (is_nan (effective_cost s depot limits route)))
  unfolding effective_cost
  cost_number limits u = cost_of_number (route_eval s depot limits route) (eval_bounded limits u)
