-- Every round of nn_tw keeps its vehicle's capacity and is feasible; every round of the nearest neighbour keeps capacity.
use Rattle.std.specs.Prelude.{◌≡◌, refl, ℕ, ◌+◌, ◌*◌, ◌≤◌, ◌<◌, Bool, true, false, not, ◌&&◌, cond, List, [], ◌∷◌, ◌++◌, T, Float, length, get_or, Option, Some, None}
use Rattle.std.proofs.Common.{sym, ◌∙◌, subst, zero-le, arith, leb→le}
use Rattle.std.proofs.Math.Path.{ap}
use Rattle.std.specs.Float.{binary64}
use Rattle.std.specs.Float.Ieee.{lt, fits}
use Rattle.std.specs.Float.Ieee.Fits.{and_l, and_r, add-fits}
use Rattle.std.proofs.lemmas.List.{length_push}
use Rattle.lists.specs.Every.{Every}
use Rattle.lists.specs.Laws.Every.{every_of, every_at}
use Rattle.lists.specs.Laws.Moved.{without_length, without_every}
use Rattle.numbers.specs.Laws.Upto.{add_units}
use Rattle.sheet.specs.Fields.{rows_of, most_rows}
use Rattle.sheet.specs.Accepted.{Accepted}
use Rattle.sheet.specs.Laws.Finite.{GateBounded, GateFits, gate_fits, stop_bounded, time_bounded}
use Rattle.sheet.specs.Values.{nought, demand_of, stop_of, vehicle_of, distance_of, time_of}
use Rattle.sheet.specs.declared.customer.Gate.{Gate}
use Rattle.sheet.specs.declared.customer.Gate.TheVariants.{Open, Hard, Soft}
use Rattle.sheet.specs.declared.vehicle.Vehicle.{Vehicle}
use Rattle.evaluation_clock.specs.declared.label.Label.{Label}
use Rattle.evaluation_clock.specs.Sums.{◌⊕◌, ◌⊗◌}
use Rattle.evaluation.specs.Routed.{Routed}
use Rattle.evaluation_clock.specs.Window.{violated_of, lateness_of, service_start}
use Rattle.evaluation_clock.specs.Serve.{at_depot, leaving_at, late_by, departure_of, pass, serve_of}
use Rattle.evaluation_clock.specs.Clock.{step_of}
use Rattle.evaluation.specs.Limits.{limits_at, allow_of}
use Rattle.evaluation.specs.Feasible.{route_feasible}
use Rattle.evaluation.specs.Checks.{has_soft_windows}
use Rattle.evaluation_clock.specs.Laws.Bounds.{Times, LabelBounded, ServedBounded, one_time, label_widen, late_positive}
use Rattle.evaluation.specs.Laws.Finite.{step_bounded, start_bounded}
use Rattle.evaluation.specs.Walk.{Position, start_at as at_start, walked_over}
use Rattle.evaluation.specs.Laws.Walk.{more_before, more_prev, more_distance}
use Rattle.evaluation.specs.Laws.Verdict.{walk_feasible}
use Rattle.evaluation.specs.declared.limits.RouteLimits.{RouteLimits}
use Rattle.constructive.specs.Load.{load_of}
use Rattle.constructive.specs.Laws.Load.{load_append}
use Rattle.constructive.specs.Rounds.{passes, Carried, Feasible}
use Rattle.constructive.specs.Laws.Rounds.{OfFleet}
use Rattle.nearest_neighbor_choice.specs.Choice.{Trip, empty_trip}
use Rattle.nearest_neighbor_choice.specs.Offers.{trip_carries, allows, offer_if, there_and_home, nearest_offer, arrival_at, late_at, penalty_of, missed, stop_too_dear, window_offer}
use Rattle.nearest_neighbor.specs.Nearest.{nearest_onward, nearest_limits, nearest_rule, nearest_neighbor, window_onward, window_rule, nearest_neighbor_tw}
use Rattle.nearest_neighbor.specs.Laws.Chosen.{Taken, Growing, greedy_every, greedy_fleet}
use Rattle.sheet.specs.declared.vehicle.VehicleBreak.{VehicleBreak}

-- a stop that is taken passes the test
taken_passes : (t : Bool) (k : Float) → Taken (offer_if t k) → T t
taken_passes true k u = tt
taken_passes false k u = u

-- ---- both: the load
record Loaded (s : List ℕ) (v : ℕ) (trip : Trip) : Type 0 where
  load : trip.load ≡ load_of s trip.stops
  carried : trip.load ≤ (vehicle_of s v).capacity

started_loaded : (s : List ℕ) (v depot : ℕ) → Loaded s v (empty_trip depot)
unfolding load_of
started_loaded s v depot = record { load = refl; carried = zero-le }

-- the load with a stop more
load_more : (s : List ℕ) (trip : Trip) (i : ℕ) → trip.load ≡ load_of s trip.stops → trip.load + demand_of s i ≡ load_of s (trip.stops ++ (i ∷ []))
unfolding load_of
load_more s trip i e = let a = load_append s trip.stops (i ∷ []) in omega arith

-- what a round so far carries, it carries once it ends
laden : (s : List ℕ) (v : ℕ) (trip : Trip) → Loaded s v trip → 0 < length trip.stops → Carried s (record { vehicle = v; stops = trip.stops })
laden s v trip k h = record { some = h; capacity = subst (λ (n : ℕ). n ≤ (vehicle_of s v).capacity) k.load k.carried }

-- ---- the nearest neighbour
nearest_carries : (s : List ℕ) (depot : ℕ) (v : Vehicle) (limits : RouteLimits) (trip : Trip) (i : ℕ) → Taken (nearest_offer s depot v limits trip i) → T (trip_carries s v trip i)
unfolding nearest_offer
nearest_carries s depot v limits trip i t =
    let a = allows s depot limits limits.rest trip i (there_and_home s depot trip i) (trip.clock ⊕ time_of s trip.current i ⊕ (stop_of s i).service ⊕ time_of s i depot) in
    and_l (trip_carries s v trip i) a (taken_passes (trip_carries s v trip i && a) (distance_of s trip.current i) t)

nearest_growing : (s : List ℕ) (depot : ℕ) → Growing (nearest_rule s depot) depot (λ (left : List ℕ). Unit) (λ (v : ℕ) (trip : Trip) (left : List ℕ). Loaded s v trip) (Carried s)
unfolding nearest_onward
nearest_growing s depot = record {
  start = λ v left u. started_loaded s v depot;
  joins = λ v trip left j h t k.
      let i = get_or left j 0 in
      record {
        load = load_more s trip i k.load;
        carried = leb→le (trip.load + demand_of s i) (vehicle_of s v).capacity (nearest_carries s depot (vehicle_of s v) (nearest_limits s v (vehicle_of s v).rest) trip i t);
      };
  leaves = λ v trip left k. tt;
  ends = λ v trip left k h. laden s v trip k h;
}

pub nearest_carried : (s : List ℕ) (depot : ℕ) (members fleet : List ℕ) → Every (Carried s) (nearest_neighbor s depot members fleet).rounds
unfolding nearest_neighbor
nearest_carried s depot members fleet =
    greedy_every (nearest_rule s depot) depot (λ (left : List ℕ). Unit) (λ (v : ℕ) (trip : Trip) (left : List ℕ). Loaded s v trip) (Carried s) (nearest_growing s depot) fleet members tt

pub nearest_fleet : (s : List ℕ) (depot : ℕ) (members fleet : List ℕ) → Every (OfFleet fleet) (nearest_neighbor s depot members fleet).rounds
unfolding nearest_neighbor
nearest_fleet s depot members fleet = greedy_fleet (nearest_rule s depot) depot fleet members

-- ---- nn_tw
-- what a stop that is taken has passed
record Passes (s : List ℕ) (depot : ℕ) (v : Vehicle) (limits : RouteLimits) (trip : Trip) (i : ℕ) : Type 0 where
  carried : T (trip_carries s v trip i)
  on_time : T (not (missed (stop_of s i).gate (late_at (stop_of s i).gate (arrival_at s trip i))))
  allowed : T (allows s depot limits limits.rest trip i (there_and_home s depot trip i) (service_start (stop_of s i).gate (arrival_at s trip i) ⊕ (stop_of s i).service ⊕ time_of s i depot))

window_passes : (s : List ℕ) (depot : ℕ) (v : Vehicle) (limits : RouteLimits) (soft : Bool) (trip : Trip) (i : ℕ) → Taken (window_offer s depot v limits soft trip i) → Passes s depot v limits trip i
unfolding window_offer
window_passes s depot v limits soft trip i t =
    let gate = (stop_of s i).gate in
    let arrival = arrival_at s trip i in
    let lateCost = penalty_of gate ⊗ late_at gate arrival in
    let a = trip_carries s v trip i in
    let b = not (missed gate (late_at gate arrival)) in
    let c = allows s depot limits limits.rest trip i (there_and_home s depot trip i) (service_start gate arrival ⊕ (stop_of s i).service ⊕ time_of s i depot) in
    let d = not (stop_too_dear s depot v limits soft trip i lateCost) in
    let abcd = taken_passes (a && (b && (c && d))) (distance_of s trip.current i ⊕ lateCost) t in
    let bcd = and_r a (b && (c && d)) abcd in
    record { carried = and_l a (b && (c && d)) abcd; on_time = and_l b (c && d) bcd; allowed = and_l c d (and_r b (c && d) bcd) }

-- the walk goes on from a stop whose hard window is not missed, at the time that the rule sums
record Goes (x : Option Label) (time : Float) : Type 0 where
  label : Label
  served : x ≡ Some label
  timed : label.time ≡ time

goes_on : (l : Label) (arrival service : Float) (n : ℕ) (g : Gate) → GateBounded g → GateFits g → Times n arrival → T (fits binary64 arrival) → T (not (missed g (late_at g arrival)))
    → Goes (pass l arrival service g) (service_start g arrival ⊕ service)
unfolding pass
goes_on l arrival service n Open ok f u h m = record { label = leaving_at l (arrival ⊕ service); served = refl; timed = refl }
goes_on l arrival service n (Hard w) ok f u h m = go (violated_of w arrival) (late_positive w arrival n ok u f h)
  where
    both : (t : Bool) → T t → T (not t) → ⊥
    both true a b = b
    both false a b = a

    go : (t : Bool) → (T t → T (lt nought (lateness_of w arrival))) → Goes (cond t None (Some (leaving_at l (departure_of w arrival service)))) (departure_of w arrival service)
    go true p = absurd (both (lt nought (lateness_of w arrival)) (p tt) m)
    go false p = record { label = leaving_at l (departure_of w arrival service); served = refl; timed = refl }
goes_on l arrival service n (Soft w penalty) ok f u h m = go (violated_of w arrival)
  where
    go : (t : Bool) → Goes (cond t (Some (leaving_at (late_by l penalty (lateness_of w arrival)) (departure_of w arrival service))) (Some (leaving_at l (departure_of w arrival service)))) (departure_of w arrival service)
    go true = record { label = leaving_at (late_by l penalty (lateness_of w arrival)) (departure_of w arrival service); served = refl; timed = refl }
    go false = record { label = leaving_at l (departure_of w arrival service); served = refl; timed = refl }

-- a round so far whose figures are its walk's
record Walked (s : List ℕ) (depot : ℕ) (trip : Trip) : Type 0 where
  current : (walked_over s (at_start None depot) trip.stops).clock.prev ≡ trip.current
  here : trip.current < rows_of s
  travelled : (walked_over s (at_start None depot) trip.stops).distance ≡ trip.travelled
  label : Label
  served : (walked_over s (at_start None depot) trip.stops).clock.before ≡ Some label
  timed : label.time ≡ trip.clock
  bounded : LabelBounded (4 * length trip.stops) (1000 * length trip.stops) label

started_walked : (s : List ℕ) (depot : ℕ) → depot < rows_of s → Walked s depot (empty_trip depot)
started_walked s depot h = record { current = refl; here = h; travelled = refl; label = at_depot; served = refl; timed = refl; bounded = start_bounded }

module _ (s : List ℕ) (depot : ℕ) (fine : Accepted s) (trip : Trip) (i : ℕ) (I : i < rows_of s) (few : length trip.stops < most_rows) (w : Walked s depot trip)
    (m : T (not (missed (stop_of s i).gate (late_at (stop_of s i).gate (arrival_at s trip i))))) where
  leg : Times 1 (time_of s trip.current i)
  leg = one_time (time_of s trip.current i) (time_bounded s fine trip.current i w.here I)

  arrives : Times (4 * length trip.stops + 1) (arrival_at s trip i)
  arrives = add_units 30 (4 * length trip.stops) 1 trip.clock (time_of s trip.current i) (omega arith) (omega arith) (subst (Times (4 * length trip.stops)) w.timed w.bounded.time) leg

  next : Goes (pass w.label (arrival_at s trip i) (stop_of s i).service (stop_of s i).gate) (service_start (stop_of s i).gate (arrival_at s trip i) ⊕ (stop_of s i).service)
  next = goes_on w.label (arrival_at s trip i) (stop_of s i).service (4 * length trip.stops + 1) (stop_of s i).gate (stop_bounded s fine i I).gate (gate_fits s i) arrives
      (add-fits binary64 trip.clock (time_of s trip.current i)) m

  -- the walk's step to the stop
  stepped : step_of (Some w.label) (time_of s trip.current i) (stop_of s i) ≡ Some next.label
  unfolding step_of serve_of
  stepped = ap (λ (t : Float). pass w.label (t ⊕ time_of s trip.current i) (stop_of s i).service (stop_of s i).gate) w.timed ∙ next.served

  abbrev start : Position
  start = at_start None depot

  served_more : (walked_over s start (trip.stops ++ (i ∷ []))).clock.before ≡ Some next.label
  served_more =
      more_before s start trip.stops i
      ∙ ap (λ (x : Option Label). step_of x (time_of s (walked_over s start trip.stops).clock.prev i) (stop_of s i)) w.served
      ∙ ap (λ (n : ℕ). step_of (Some w.label) (time_of s n i) (stop_of s i)) w.current
      ∙ stepped

  distance_more : (walked_over s start (trip.stops ++ (i ∷ []))).distance ≡ trip.travelled ⊕ distance_of s trip.current i
  distance_more =
      more_distance s start trip.stops i
      ∙ ap (λ (x : Float). x ⊕ distance_of s (walked_over s start trip.stops).clock.prev i) w.travelled
      ∙ ap (λ (n : ℕ). trip.travelled ⊕ distance_of s n i) w.current

  bounded_more : LabelBounded (4 * length (trip.stops ++ (i ∷ []))) (1000 * length (trip.stops ++ (i ∷ []))) next.label
  bounded_more =
      let n = length trip.stops in
      let e = length_push trip.stops i in
      label_widen (4 * n + 4) (1000 * n + 1000) (4 * length (trip.stops ++ (i ∷ []))) (1000 * length (trip.stops ++ (i ∷ []))) next.label (omega arith) (omega arith)
      (subst (ServedBounded (4 * n + 4) (1000 * n + 1000)) stepped
      (step_bounded (4 * n) (1000 * n) (Some w.label) (time_of s trip.current i) (stop_of s i) (omega arith) (omega arith) w.bounded leg (stop_bounded s fine i I)))

  walked_more : Walked s depot (window_onward s trip i)
  unfolding window_onward
  walked_more = record {
    current = more_prev s start trip.stops i;
    here = I;
    travelled = distance_more;
    label = next.label;
    served = served_more;
    timed = next.timed;
    bounded = bounded_more;
  }

  -- so the rule's test is `route_feasible`'s, without a rest as with one
  test_feasible : (limits : RouteLimits) (r : Option VehicleBreak) → limits.rest ≡ r
      → T (allows s depot limits r trip i (there_and_home s depot trip i) (service_start (stop_of s i).gate (arrival_at s trip i) ⊕ (stop_of s i).service ⊕ time_of s i depot))
      → T (route_feasible s depot limits (trip.stops ++ (i ∷ [])))
  test_feasible limits (Some b) e t = t
  test_feasible limits None e t =
      let route = trip.stops ++ (i ∷ []) in
      let p = walked_over s start route in
      subst T
      (sym (walk_feasible s depot limits route p next.label e refl served_more
      ∙ ap (λ (n : ℕ). allow_of limits (p.distance ⊕ distance_of s n depot) (next.label.time ⊕ time_of s n depot)) (more_prev s start trip.stops i)
      ∙ ap (λ (x : Float). allow_of limits (x ⊕ distance_of s i depot) (next.label.time ⊕ time_of s i depot)) distance_more
      ∙ ap (λ (x : Float). allow_of limits (there_and_home s depot trip i) (x ⊕ time_of s i depot)) next.timed))
      t

-- and the stops left, that may yet join it
record Kept (s : List ℕ) (depot v : ℕ) (trip : Trip) (left : List ℕ) : Type 0 where
  rows : Every (λ (i : ℕ). i < rows_of s) left
  room : length trip.stops + length left ≤ most_rows
  loaded : Loaded s v trip
  walked : Walked s depot trip
  feasible : 0 < length trip.stops → T (passes s depot v trip.stops)

-- the stops left: rows of the sheet, a round's at most
record Left (s left : List ℕ) : Type 0 where
  rows : Every (λ (i : ℕ). i < rows_of s) left
  few : length left ≤ most_rows

window_growing : (s : List ℕ) (depot : ℕ) (soft : Bool) → Accepted s → depot < rows_of s → Growing (window_rule s depot soft) depot (Left s) (Kept s depot) (Feasible s depot)
unfolding window_onward
window_growing s depot soft fine D = record {
  start = λ v left u. record { rows = u.rows; room = omega (arith, u.few); loaded = started_loaded s v depot; walked = started_walked s depot D; feasible = λ h. absurd (omega (arith, h)) };
  joins = λ v trip left j h t k.
      let i = get_or left j 0 in
      let I = every_at (λ (i : ℕ). i < rows_of s) 0 left j h k.rows in
      let p = window_passes s depot (vehicle_of s v) (limits_at s v) soft trip i t in
      let few : length trip.stops < most_rows = omega (arith, k.room, h) in
      record {
        rows = without_every (λ (i : ℕ). i < rows_of s) left j k.rows;
        room = omega (arith, k.room, length_push trip.stops i, without_length left j h);
        loaded = record { load = load_more s trip i k.loaded.load; carried = leb→le (trip.load + demand_of s i) (vehicle_of s v).capacity p.carried };
        walked = walked_more s depot fine trip i I few k.walked p.on_time;
        feasible = λ o. test_feasible s depot fine trip i I few k.walked p.on_time (limits_at s v) (limits_at s v).rest refl p.allowed;
      };
  leaves = λ v trip left k. record { rows = k.rows; few = omega (arith, k.room) };
  ends = λ v trip left k h. record { carried = laden s v trip k.loaded h; feasible = k.feasible h };
}

pub window_feasible : (s : List ℕ) (depot : ℕ) (members fleet : List ℕ) → Routed s depot members → Every (Feasible s depot) (nearest_neighbor_tw s depot members fleet).rounds
unfolding nearest_neighbor_tw
window_feasible s depot members fleet ok =
    let soft = has_soft_windows s depot members in
    greedy_every (window_rule s depot soft) depot (Left s) (Kept s depot) (Feasible s depot) (window_growing s depot soft ok.sheet ok.home) fleet members
    (record { rows = every_of (λ (i : ℕ). i < rows_of s) 0 members ok.row; few = ok.few })

pub window_fleet : (s : List ℕ) (depot : ℕ) (members fleet : List ℕ) → Every (OfFleet fleet) (nearest_neighbor_tw s depot members fleet).rounds
unfolding nearest_neighbor_tw
window_fleet s depot members fleet = greedy_fleet (window_rule s depot (has_soft_windows s depot members)) depot fleet members
