-- Every figure of a record is finite and not negative on every accepted sheet, so that it can be written. Times are counted in units of 2 ^ 30, costs of
-- lateness in units of 2 ^ 50, a plan's price in units of 2 ^ 70: no count comes near 2 ^ 53, where it would be rounded. Assumes nothing.
use Rattle.std.specs.Prelude.{◌≡◌, Bool, cond, ltb, eqb, length, get_or, Float, Option, Some, None}
use Rattle.std.proofs.Math.Path.{sym, ap, subst}
use Rattle.std.proofs.Common.{◌∙◌, add-mul, add-zero, zero-add, zero-mul, mul-one, mul-le-mul_left, inl, inr, le-ltb}
use Prim.Native.Nat.{ℕ, suc, ◌+◌, ◌-◌, ◌*◌, ◌^◌, ◌≤◌, ◌<◌, zero-le, suc-le-suc}
use Rattle.std.proofs.Math.Nat.{one-mul, mul-le-mul_right}
use native.Mathlib.Omega.{arith}
use Rattle.std.proofs.Math.Bool.{true, false}
use mathlib.Core.List.{List, [], ◌∷◌}
use Rattle.std.proofs.Math.Dec.{T}
use Rattle.std.specs.Float.Ieee.Fits.{down_pos}
use Rattle.std.specs.Float.{nan, inf, fin, binary64}
use Rattle.std.specs.Float.Ieee.{up, down, round, sum, of_bits, add}
use Rattle.numbers.specs.Laws.Upto.{Upto, Units, exact_scaled, round_upto, widen, add_units, mul_units, widen_units, pick_upto}
use Rattle.numbers.specs.Laws.Range.{zero_upto}
use Rattle.sheet.specs.Fields.{rows_of, most_rows}
use Rattle.sheet.specs.Accepted.{Accepted}
use Rattle.sheet.specs.Values.{stop_of, distance_of, time_of}
use Rattle.sheet.specs.Laws.Finite.{GateBounded, RestBounded, VehicleBounded, stop_bounded, distance_bounded, time_bounded}
use Rattle.sheet.specs.declared.vehicle.Vehicle.{Vehicle}
use Rattle.sheet.specs.declared.customer.Gate.{Gate}
use Rattle.sheet.specs.declared.customer.Gate.TheVariants.{Open, Hard, Soft}
use Rattle.evaluation_clock.specs.Sums.{◌⊕◌, ◌⊗◌}
use Rattle.evaluation_clock.specs.Window.{violated_of, waiting_of, lateness_of}
use Rattle.evaluation_clock.specs.Laws.Bounds.{Times, one_time, one_penalty, waiting_bounded, lateness_bounded}
use Rattle.evaluation.specs.Laws.Finite.{ScheduledBounded, mended_bounded, scheduled_bounded}
use Rattle.evaluation_clock.specs.Serve.{rest_start}
use Rattle.evaluation.specs.Walk.{scheduled_of}
use Rattle.evaluation.specs.Verdict.{Verdict, held_to, verdict_on, placed_rest}
use Rattle.evaluation.specs.Laws.Verdict.{held_none, held_rest}
use Rattle.evaluation.specs.declared.limits.RouteLimits.{RouteLimits}
use Rattle.evaluation.specs.Routed.{Routed}
use Rattle.evaluation_clock.specs.declared.clock.Schedule.{Schedule}
use Rattle.evaluation_clock.specs.RestAnswer.{RestAnswer}
use Rattle.evaluator.specs.declared.Progress.{Progress}
use Rattle.evaluator.specs.declared.Placed.{Placed}
use Rattle.evaluator.specs.declared.Record.{Record}
use Rattle.evaluator.specs.Laws.Home.{Told, kept_or_mended}
use Rattle.evaluator.specs.Record.{placed_by, placed_of, ready_for, departs_at, late_after, cost_after, begin_of, visited_of, progress_of, record_of, build_route, route_cost, price_start, price_with}
use Rattle.sheet.specs.declared.vehicle.VehicleBreak.{VehicleBreak}

-- ---- a visit, of a stop that the vehicle is ready for at `ready`
module _ (n : ℕ) (ready : Float) (few : n < 2 ^ 40) (here : Times n ready) where
  departure_bounded : (g : Gate) (service : Float) → GateBounded g → Times 1 service → Times (n + 1 + 1) (departs_at g ready service)
  unfolding departs_at
  departure_bounded Open service ok u = widen_units 30 (n + 1) (n + 1 + 1) (ready ⊕ service) (omega arith) (add_units 30 n 1 ready service (omega arith) (omega arith) here u)
  departure_bounded (Hard w) service ok u =
      add_units 30 (n + 1) 1 (ready ⊕ waiting_of w ready) service (omega arith) (omega arith) (add_units 30 n 1 ready (waiting_of w ready) (omega arith) (omega arith) here (waiting_bounded w ready n ok here)) u
  departure_bounded (Soft w x) service ok u =
      add_units 30 (n + 1) 1 (ready ⊕ waiting_of w ready) service (omega arith) (omega arith) (add_units 30 n 1 ready (waiting_of w ready) (omega arith) (omega arith) here (waiting_bounded w ready n ok.0 here)) u

  late_bounded : (g : Gate) (b : ℕ) (late : Float) → b < 2 ^ 40 → GateBounded g → Times b late → Times (b + n) (late_after g ready late)
  unfolding late_after
  late_bounded Open b late h ok u = widen_units 30 b (b + n) late (omega arith) u
  late_bounded (Hard w) b late h ok u = widen_units 30 b (b + n) late (omega arith) u
  late_bounded (Soft w x) b late h ok u = go (violated_of w ready) (λ (t : T (violated_of w ready)). t)
    where
      go : (t : Bool) → (T t → T (violated_of w ready)) → Times (b + n) (cond t (late ⊕ lateness_of w ready) late)
      go true f = add_units 30 b n late (lateness_of w ready) (omega arith) (omega arith) u (lateness_bounded w ready n few ok.0 here (f tt))
      go false f = widen_units 30 b (b + n) late (omega arith) u

  cost_bounded : (g : Gate) (b : ℕ) (cost : Float) → b < 2 ^ 40 → GateBounded g → Units 50 b cost → Units 50 (b + n) (cost_after g ready cost)
  unfolding cost_after
  cost_bounded Open b cost h ok u = widen_units 50 b (b + n) cost (omega arith) u
  cost_bounded (Hard w) b cost h ok u = widen_units 50 b (b + n) cost (omega arith) u
  cost_bounded (Soft w x) b cost h ok u = go (violated_of w ready) (λ (t : T (violated_of w ready)). t)
    where
      go : (t : Bool) → (T t → T (violated_of w ready)) → Units 50 (b + n) (cond t (cost ⊕ x ⊗ lateness_of w ready) cost)
      go true f =
          add_units 50 b n cost (x ⊗ lateness_of w ready) (omega arith) (omega arith) u
          (subst (λ (k : ℕ). Units 50 k (x ⊗ lateness_of w ready)) (one-mul n)
          (mul_units 20 30 1 n x (lateness_of w ready) (omega arith) (omega (arith, one-mul n)) (one_penalty x ok.1) (lateness_bounded w ready n few ok.0 here (f tt))))
      go false f = widen_units 50 b (b + n) cost (omega arith) u

-- ---- the record so far, after i stops, where the rest starts at k units at the most
abbrev pub StartBounded : ℕ → RestAnswer → Type 0
StartBounded k None = Unit
StartBounded k (Some (at, start)) = Times k start

-- what a stop adds to the lateness at the most
abbrev late : ℕ → ℕ
late k = k + 410

pub record ProgressBounded (k i : ℕ) (p : Progress) : Type 0 where
  pub arrival : Times (k + 4 * i + 1) p.arrival
  pub departure : Times (k + 4 * i + 1) p.departure
  pub distance : Times i p.distance
  pub lateness : Times (i * late k) p.lateness
  pub cost : Units 50 (i * late k) p.lateness_cost

pub begin_bounded : (k depot : ℕ) → ProgressBounded k 0 (begin_of depot)
begin_bounded k depot = record { arrival = zero_upto _; departure = zero_upto _; distance = zero_upto _; lateness = zero_upto _; cost = zero_upto _ }

ready_bounded : (k n : ℕ) (r : RestAnswer) (duration : Float) (place : ℕ) (arrival : Float) → k < 2 ^ 30 → k + 1 ≤ n → StartBounded k r → Times 1 duration → Times n arrival → Times n (ready_for r duration place arrival)
unfolding ready_for
ready_bounded k n None duration place arrival h l u v w = w
ready_bounded k n (Some (at, start)) duration place arrival h l u v w =
    pick_upto (n * 2 ^ 30) (eqb at place) (start ⊕ duration) arrival (widen_units 30 (k + 1) n (start ⊕ duration) l (add_units 30 k 1 start duration (omega arith) (omega arith) u v)) w

module _ (s : List ℕ) (a : Accepted s) (k : ℕ) (small : k < 2 ^ 20) (t : Placed) (start : StartBounded k t.answer) (resting : Times 1 t.duration) where
  pub visited_bounded : (p : Progress) (i row : ℕ) → i ≤ most_rows → p.prev < rows_of s → row < rows_of s → ProgressBounded k i p → ProgressBounded k (i + 1) (visited_of s t p row)
  unfolding visited_of
  visited_bounded p i row few from to b =
      let leg = one_time (time_of s p.prev row) (time_bounded s a p.prev row from to) in
      let stop = stop_bounded s a row to in
      let arrival = p.departure ⊕ time_of s p.prev row in
      let arrives : Times (k + 4 * i + 1 + 1) arrival = add_units 30 (k + 4 * i + 1) 1 p.departure (time_of s p.prev row) (omega arith) (omega arith) b.departure leg in
      let here = ready_bounded k (k + 4 * i + 1 + 1) t.answer t.duration p.place arrival (omega arith) (omega arith) start resting arrives in
      let ready = ready_for t.answer t.duration p.place arrival in
      let m : i * late k + late k ≡ (i + 1) * late k = sym (add-mul i 1 (late k) ∙ ap (λ (j : ℕ). i * late k + j) (one-mul (late k))) in
      let c : i * late k ≤ most_rows * late k = mul-le-mul_right (late k) few in
      record {
        arrival = widen_units 30 (k + 4 * i + 1 + 1) (k + 4 * (i + 1) + 1) arrival (omega arith) arrives;
        departure = widen_units 30 (k + 4 * i + 1 + 1 + 1 + 1) (k + 4 * (i + 1) + 1) (departs_at (stop_of s row).gate ready (stop_of s row).service) (omega arith) (departure_bounded (k + 4 * i + 1 + 1) ready (omega arith) here (stop_of s row).gate (stop_of s row).service stop.gate (one_time (stop_of s row).service stop.service));
        distance = add_units 30 i 1 p.distance (distance_of s p.prev row) (omega arith) (omega arith) b.distance (one_time (distance_of s p.prev row) (distance_bounded s a p.prev row from to));
        lateness = widen_units 30 (i * late k + (k + 4 * i + 1 + 1)) ((i + 1) * late k) (late_after (stop_of s row).gate ready p.lateness) (omega arith) (late_bounded (k + 4 * i + 1 + 1) ready (omega arith) here (stop_of s row).gate (i * late k) p.lateness (omega arith) stop.gate b.lateness);
        cost = widen_units 50 (i * late k + (k + 4 * i + 1 + 1)) ((i + 1) * late k) (cost_after (stop_of s row).gate ready p.lateness_cost) (omega arith) (cost_bounded (k + 4 * i + 1 + 1) ready (omega arith) here (stop_of s row).gate (i * late k) p.lateness_cost (omega arith) stop.gate b.cost);
      }

  -- the same over the stops left
  pub progress_bounded : (route : List ℕ) (p : Progress) (i : ℕ) → i + length route ≤ most_rows → p.prev < rows_of s → ((j : ℕ) → j < length route → get_or route j 0 < rows_of s) → ProgressBounded k i p
      → ProgressBounded k (i + length route) (progress_of s t p route) × ((progress_of s t p route).prev < rows_of s)
  unfolding visited_of
  progress_bounded [] p i few from rows b = (subst (λ (n : ℕ). ProgressBounded k n p) (sym (add-zero i)) b, from)
  progress_bounded (row ∷ route) p i few from rows b =
      subst (λ (n : ℕ). ProgressBounded k n (progress_of s t p (row ∷ route)) × ((progress_of s t p (row ∷ route)).prev < rows_of s)) (count i (length route))
      (progress_bounded route (visited_of s t p row) (i + 1) (omega arith) (rows 0 (suc-le-suc zero-le)) (λ j h. rows (suc j) (suc-le-suc h))
      (visited_bounded p i row (omega arith) from (rows 0 (suc-le-suc zero-le)) b))
    where
      count : (a b : ℕ) → a + 1 + b ≡ a + suc b
      count a b = omega arith

-- ---- the whole record
pub record RecordBounded (k n : ℕ) (r : Record) : Type 0 where
  pub distance : Times (n + 1) r.distance
  pub duration : Times (k + 4 * n + 1 + 1) r.duration
  pub lateness : Times (n * late k) r.lateness
  pub cost : Units 50 (n * late k) r.lateness_cost
  pub start : StartBounded k r.rest

pub record_of_bounded : (s : List ℕ) → Accepted s → (k depot : ℕ) (t : Placed) (p : Progress) (n : ℕ) → k < 2 ^ 20 → n ≤ most_rows → depot < rows_of s → p.prev < rows_of s → StartBounded k t.answer → Times 1 t.duration
    → ProgressBounded k n p → RecordBounded k n (record_of s depot t p)
unfolding record_of
record_of_bounded s a k depot t p n small few home from start resting b = record {
  distance = add_units 30 n 1 p.distance (distance_of s p.prev depot) (omega arith) (omega arith) b.distance (one_time (distance_of s p.prev depot) (distance_bounded s a p.prev depot from home));
  duration = ready_bounded k (k + 4 * n + 1 + 1) t.answer t.duration p.place (p.departure ⊕ time_of s p.prev depot) (omega arith) (omega arith) start resting
      (add_units 30 (k + 4 * n + 1) 1 p.departure (time_of s p.prev depot) (omega arith) (omega arith) b.departure (one_time (time_of s p.prev depot) (time_bounded s a p.prev depot from home)));
  lateness = b.lateness;
  cost = b.cost;
  start = start;
}

-- ---- the rest that a round takes starts within 2 ^ 40, which is 1024 units
start_bounded_by : (r : RestAnswer) → Upto (2 ^ 40) (rest_start r) → StartBounded 1024 r
start_bounded_by None v = tt
start_bounded_by (Some (at, start)) v = v

answer_bounded : (limits : RouteLimits) (x : Option Schedule) → ScheduledBounded x → StartBounded 1024 (placed_rest (held_to limits x))
answer_bounded limits None u = rw (held_none limits) tt
answer_bounded limits (Some k) u = subst (StartBounded 1024) (sym (held_rest limits k)) (start_bounded_by k.rest u.rest)

module _ (s : List ℕ) (depot : ℕ) (route : List ℕ) (ok : Routed s depot route) where
  rest_bounded : (v : Verdict) → StartBounded 1024 (placed_rest v) → (rest : Option VehicleBreak) → RestBounded rest → StartBounded 1024 (placed_by rest v).answer × Times 1 (placed_by rest v).duration
  rest_bounded v a None u = (tt, zero_upto (1 * 2 ^ 30))
  rest_bounded v a (Some b) u = (a, one_time b.duration u.duration)

  -- where the verdict has it, a round mended by it at home too
  verdict_bounded : (limits : RouteLimits) → RestBounded limits.rest → StartBounded 1024 (placed_rest (verdict_on s depot limits route))
  verdict_bounded limits u = go (kept_or_mended s depot limits route)
    where
      go : Told s depot limits route → StartBounded 1024 (placed_rest (verdict_on s depot limits route))
      go (inl e) = subst (λ (v : Verdict). StartBounded 1024 (placed_rest v)) (sym e) (answer_bounded limits (scheduled_of s depot limits.rest route) (scheduled_bounded s depot route ok limits.rest u))
      go (inr m) =
          let w = m.how in
          let c = subst ScheduledBounded w.walked (scheduled_bounded s depot route ok None tt) in
          let k = mended_bounded limits w.b (1 + length route) w.j (subst RestBounded w.resting u) c w.fits in
          subst (λ (v : Verdict). StartBounded 1024 (placed_rest v)) (sym m.is) (start_bounded_by m.k.rest (subst (λ (k : Schedule). Upto (2 ^ 40) (rest_start k.rest)) w.is k.rest))

  pub placed_bounded : (limits : RouteLimits) → RestBounded limits.rest → StartBounded 1024 (placed_of s depot limits route).answer × Times 1 (placed_of s depot limits route).duration
  unfolding placed_of
  placed_bounded limits u = rest_bounded (verdict_on s depot limits route) (verdict_bounded limits u) limits.rest u

  -- every figure of a round's record
  pub record_bounded : (limits : RouteLimits) → RestBounded limits.rest → RecordBounded 1024 (length route) (build_route s depot limits route)
  unfolding build_route
  record_bounded limits u =
      let t = placed_of s depot limits route in
      let v = placed_bounded limits u in
      let p = progress_bounded s ok.sheet 1024 (omega arith) t v.0 v.1 route (begin_of depot) 0 (omega (arith, ok.few)) ok.home ok.row (begin_bounded 1024 depot) in
      record_of_bounded s ok.sheet 1024 depot t (progress_of s t (begin_of depot) route) (length route) (omega arith) ok.few ok.home p.1 v.0 v.1
      (subst (λ (n : ℕ). ProgressBounded 1024 n (progress_of s t (begin_of depot) route)) (zero-add (length route)) p.0)

-- -0.0 and a number from 0 up add to that number, rounded
after_negative_zero : (q j : ℕ) (x : Float) → q < 2 ^ 53 → j ≤ 971 → Units j q x → Units j q (price_start ⊕ x)
unfolding of_bits add sum
after_negative_zero q j nan h k u = absurd u
after_negative_zero q j (inf s) h k u = absurd u
after_negative_zero q j (fin true m e) h k u = absurd u
after_negative_zero q j (fin false m e) h k u = rw (zero-mul (down e), mul-one (m * up e), one-mul (down e), le-ltb (m * up e) 0 zero-le) (go (ltb 0 (m * up e)))
  where
    go : (b : Bool) → Units j q (cond b (round binary64 false (m * up e - 0) (down e)) (round binary64 false (0 - m * up e) (down e)))
    go true = round_upto (m * up e - 0) (down e) (q * 2 ^ j) (down_pos e) (omega (arith, u)) (exact_scaled q j h k)
    go false = round_upto (0 - m * up e) (down e) (q * 2 ^ j) (down_pos e) (omega arith) (exact_scaled q j h k)

-- ---- the plan's price: at most 150,000 units of 2 ^ 70 a round
module _ (v : Vehicle) (r : Record) (n : ℕ) (few : n ≤ most_rows) (vb : VehicleBounded v) (rb : RecordBounded 1024 n r) where
  far : n + 1 + n * late 1024 ≤ 149000
  far = let c : n * late 1024 ≤ most_rows * late 1024 = mul-le-mul_right (late 1024) few in omega arith

  priced : Units 50 149000 (r.distance ⊕ r.lateness_cost)
  priced =
      widen_units 50 (n + 1 + n * late 1024) 149000 (r.distance ⊕ r.lateness_cost) far
      (add_units 50 (n + 1) (n * late 1024) r.distance r.lateness_cost (omega arith) (omega (arith, far))
      (widen ((n + 1) * 2 ^ 30) ((n + 1) * 2 ^ 50) r.distance (mul-le-mul_left (n + 1) (omega arith)) rb.distance) rb.cost)

  pub cost_units : Units 70 150000 (route_cost v (r.distance ⊕ r.lateness_cost))
  unfolding route_cost
  cost_units =
      let x = r.distance ⊕ r.lateness_cost in
      widen_units 70 (1 + 149000) 150000 (v.fixed_cost ⊕ v.cost_per_distance ⊗ x) (omega arith)
      (add_units 70 1 149000 v.fixed_cost (v.cost_per_distance ⊗ x) (omega arith) (omega arith)
      (widen (10 ^ 9) (1 * 2 ^ 70) v.fixed_cost (omega arith) vb.fixed)
      (mul_units 20 50 1 149000 v.cost_per_distance x (omega arith) (omega arith) (one_penalty v.cost_per_distance vb.cost) priced))

  pub price_bounded : (a : ℕ) (total : Float) → a < 2 ^ 40 → Units 70 a total → Units 70 (a + 150000) (price_with total v r)
  unfolding price_with
  price_bounded a total h u = add_units 70 a 150000 total (route_cost v (r.distance ⊕ r.lateness_cost)) (omega arith) (omega arith) u cost_units

  -- the first round's, added to -0.0
  pub price_first_bounded : Units 70 150000 (price_with price_start v r)
  unfolding price_with
  price_first_bounded = after_negative_zero 150000 70 (route_cost v (r.distance ⊕ r.lateness_cost)) (omega arith) (omega arith) cost_units
