-- The round so far, kept by its figures and its clock, judges a stop as the definition does by the whole round. Assumes nothing.
use Rattle.std.specs.Prelude.{Option, Some, None}
use mathlib.Core.Path.{◌≡◌, refl, sym, ap, ◌∙◌}
use Prim.Native.Nat.{ℕ, suc, ◌+◌, ◌*◌, ◌≤◌, ◌<◌}
use native.Mathlib.Nat.{suc-ne-zero}
use native.Mathlib.Omega.{arith}
use mathlib.Core.Bool.{cond}
use mathlib.Core.List.{List, [], ◌∷◌, ◌++◌}
use borrow.Author.Tests.{ne_eqb}
use lib.Dec.{eqb}
use lib.ListN.{length}
use lib.Ieee.{Float}
use Rattle.std.proofs.lemmas.List.{length_push}
use Rattle.sheet.specs.Fields.{rows_of}
use Rattle.sheet.specs.Accepted.{Accepted}
use Rattle.sheet.specs.Values.{demand_of, stop_of, vehicle_of, distance_of, time_of}
use Rattle.sheet.specs.Laws.Finite.{demand_bounded}
use Rattle.sheet.specs.declared.vehicle.VehicleBreak.{VehicleBreak}
use Rattle.sheet.specs.declared.vehicle.Vehicle.{Vehicle}
use Rattle.evaluation_clock.specs.Sums.{◌⊕◌}
use Rattle.evaluation_clock.specs.Clock.{Clock, next_of, clock_of, break_clock}
use Rattle.evaluation.specs.Walk.{start_at as at_start, walked_over}
use Rattle.evaluation.specs.Limits.{limits_of, limits_at}
use Rattle.evaluation.specs.Verdict.{verdict_of, is_feasible}
use Rattle.evaluation.specs.Feasible.{route_feasible}
use Rattle.evaluation.specs.Laws.Walk.{clock_kept, walked_rest, walked_place, more_clock, more_prev, more_distance}
use Rattle.evaluation.specs.Laws.Verdict.{longer_feasible}
use Rattle.evaluation.specs.declared.limits.RouteLimits.{RouteLimits}
use Rattle.nearest_neighbor_choice.specs.StopChoice.{StopChoice}
use Rattle.nearest_neighbor_choice.specs.declared.partial.Partial.{Partial}
use Rattle.nearest_neighbor_choice.specs.Heuristic.{Heuristic, Nearest, NearestTw, ignores_due, offer_by, clock_by}
use Rattle.nearest_neighbor_choice.specs.Choice.{Offer, better_stop, choose, Trip, empty_trip as setOff}
use Rattle.evaluation_clock.specs.Window.{service_start}
use Rattle.nearest_neighbor_choice.specs.Offers.{allows, there_and_home, nearest_offer, arrival_at, is_first, window_offer}
use Rattle.nearest_neighbor.specs.Nearest.{nearest_onward, nearest_limits, window_onward}
use Rattle.nearest_neighbor_choice.specs.Partial.{pushed_by, allows_by, empty_partial, nearest_by, window_by, ClockKept, PartialRoute}
use Rattle.nearest_neighbor.specs.Heuristic.{limits_by, rule_of, onward_by}
use Rattle.evaluation_clock.specs.declared.clock.BreakClock.{BreakClock}

-- the clock after the stops
abbrev pub clock_after : List ℕ → ℕ → Option VehicleBreak → List ℕ → Option BreakClock
clock_after s depot None stops = None
clock_after s depot (Some b) stops = Some (break_clock b (walked_over s (at_start (Some b) depot) stops).clock)

-- what is kept of a round so far
abbrev pub ride_of : List ℕ → ℕ → Option VehicleBreak → Trip → Partial
ride_of s depot rest trip = record {
  current = trip.current;
  served = length trip.stops;
  load = trip.load;
  travelled = trip.travelled;
  clock = trip.clock;
  rest = clock_after s depot rest trip.stops;
}

-- a round so far whose figures are those of its stops, with a rest and without one
pub record Driven (s : List ℕ) (depot : ℕ) (trip : Trip) : Type 0 where
  pub last : (rest : Option VehicleBreak) → (walked_over s (at_start rest depot) trip.stops).clock.prev ≡ trip.current
  pub far : (rest : Option VehicleBreak) → (walked_over s (at_start rest depot) trip.stops).distance ≡ trip.travelled
  pub from : trip.current < rows_of s
  pub load : trip.load ≤ 1000000 * length trip.stops

-- ---- with a stop as the last
module _ (s : List ℕ) (depot : ℕ) (v : Vehicle) (limits : RouteLimits) (trip : Trip) (ok : Driven s depot trip) (i : ℕ) where
  -- the clock, pushed once, is that of the round with the stop
  pushed_once : (b : VehicleBreak) → limits.rest ≡ Some b
      → is_feasible (verdict_of limits (next_of s (clock_of (break_clock b (walked_over s (at_start (Some b) depot) trip.stops).clock)) i) (there_and_home s depot trip i) (time_of s i depot)) ≡ route_feasible s depot limits (trip.stops ++ (i ∷ []))
  pushed_once b e =
      let p = walked_over s (at_start (Some b) depot) trip.stops in
      ap (λ (c : Clock). is_feasible (verdict_of limits (next_of s c i) (there_and_home s depot trip i) (time_of s i depot))) (clock_kept b p.clock (walked_rest s (at_start (Some b) depot) trip.stops))
      ∙ ap (λ (x : Float). is_feasible (verdict_of limits (next_of s p.clock i) (x ⊕ distance_of s i depot) (time_of s i depot))) (sym (ap (λ (x : Float). x ⊕ distance_of s p.clock.prev i) (ok.far (Some b)) ∙ ap (λ (n : ℕ). trip.travelled ⊕ distance_of s n i) (ok.last (Some b))))
      ∙ sym (longer_feasible s depot limits trip.stops i p (ap (λ (x : Option VehicleBreak). walked_over s (at_start x depot) trip.stops) e))

  allowed : (rest : Option VehicleBreak) → limits.rest ≡ rest → (duration : Float)
      → allows_by s depot limits (clock_after s depot rest trip.stops) i (there_and_home s depot trip i) duration ≡ allows s depot limits rest trip i (there_and_home s depot trip i) duration
  unfolding allows_by
  allowed None e duration = refl
  allowed (Some b) e duration = pushed_once b e

  first : (stops : List ℕ) → eqb (length stops) 0 ≡ is_first stops
  first [] = refl
  first (row ∷ rows) = ne_eqb (suc (length rows)) 0 (suc-ne-zero (length rows))

  -- the limits that the rule goes by
  held : (index : ℕ) (rest : Option VehicleBreak) → cond (ignores_due Nearest rest) (limits_of (vehicle_of s index)) (limits_at s index) ≡ nearest_limits s index rest
  unfolding ignores_due
  held index None = refl
  held index (Some b) = refl

  pub offers : (h : Heuristic) (index : ℕ) → v ≡ vehicle_of s index → limits ≡ limits_by s h index → offer_by s depot h v limits (ride_of s depot limits.rest trip) i ≡ (rule_of s depot h index).offer trip i
  unfolding offer_by rule_of nearest_by nearest_offer window_by window_offer ignores_due
  offers Nearest index e f = rw (allowed limits.rest refl (trip.clock ⊕ time_of s trip.current i ⊕ (stop_of s i).service ⊕ time_of s i depot), e, f ∙ held index (vehicle_of s index).rest)
  offers (NearestTw soft) index e f =
      rw (allowed limits.rest refl (service_start (stop_of s i).gate (arrival_at s trip i) ⊕ (stop_of s i).service ⊕ time_of s i depot), first trip.stops, e, f)

-- ---- one stop further
pushed_on : (s : List ℕ) (depot : ℕ) (rest : Option VehicleBreak) (stops : List ℕ) (i : ℕ) → pushed_by s (clock_after s depot rest stops) i ≡ clock_after s depot rest (stops ++ (i ∷ []))
unfolding pushed_by
pushed_on s depot None stops i = refl
pushed_on s depot (Some b) stops i =
    let p = walked_over s (at_start (Some b) depot) stops in
    ap Some
    (ap (λ (c : Clock). break_clock b (next_of s c i)) (clock_kept b p.clock (walked_rest s (at_start (Some b) depot) stops))
    ∙ sym (ap (break_clock b) (more_clock s (at_start (Some b) depot) stops i)))

pub drives_on : (s : List ℕ) (depot : ℕ) (rest : Option VehicleBreak) (trip : Trip) (h : Heuristic) (index i : ℕ) → onward_by s h (ride_of s depot rest trip) i ≡ ride_of s depot rest ((rule_of s depot h index).onward trip i)
unfolding onward_by clock_by rule_of nearest_onward window_onward
drives_on s depot rest trip Nearest index i = rw (pushed_on s depot rest trip.stops i, length_push trip.stops i)
drives_on s depot rest trip (NearestTw soft) index i = rw (pushed_on s depot rest trip.stops i, length_push trip.stops i)

-- the figures stay those of the stops
pub stays_driven : (s : List ℕ) (depot : ℕ) (trip : Trip) (h : Heuristic) (index i : ℕ) → Accepted s → Driven s depot trip → i < rows_of s → Driven s depot ((rule_of s depot h index).onward trip i)
unfolding rule_of nearest_onward window_onward
stays_driven s depot trip h index i fine ok k = go h
  where
    last : (rest : Option VehicleBreak) → (walked_over s (at_start rest depot) (trip.stops ++ (i ∷ []))).clock.prev ≡ i
    last rest = more_prev s (at_start rest depot) trip.stops i

    far : (rest : Option VehicleBreak) → (walked_over s (at_start rest depot) (trip.stops ++ (i ∷ []))).distance ≡ trip.travelled ⊕ distance_of s trip.current i
    far rest = more_distance s (at_start rest depot) trip.stops i ∙ rw (ok.far rest, ok.last rest)

    load : trip.load + demand_of s i ≤ 1000000 * length (trip.stops ++ (i ∷ []))
    load = omega (arith, ok.load, demand_bounded s fine i k, length_push trip.stops i)

    go : (h : Heuristic) → Driven s depot ((rule_of s depot h index).onward trip i)
    go Nearest = record { last = last; far = far; from = k; load = load }
    go (NearestTw soft) = record { last = last; far = far; from = k; load = load }

-- and may be stepped on from, with at most 100 stops so far
ticks : (s : List ℕ) (depot : ℕ) (rest : Option VehicleBreak) (trip : Trip) → Accepted s → Driven s depot trip → length trip.stops ≤ 100 → ClockKept s (clock_after s depot rest trip.stops)
ticks s depot None trip fine ok few = tt
ticks s depot (Some b) trip fine ok few =
    let place = walked_place s (at_start (Some b) depot) trip.stops in
    record { sheet = fine; from = rw (ok.last (Some b)) ok.from; room = omega (arith, place) }

pub riding : (s : List ℕ) (depot : ℕ) (rest : Option VehicleBreak) (trip : Trip) → Accepted s → Driven s depot trip → length trip.stops ≤ 100 → PartialRoute s (ride_of s depot rest trip)
riding s depot rest trip fine ok few = record { sheet = fine; from = ok.from; few = few; load = ok.load; ticking = ticks s depot rest trip fine ok few }

-- ---- at the depot
pub sets_out : (s : List ℕ) (depot : ℕ) (rest : Option VehicleBreak) → empty_partial rest depot ≡ ride_of s depot rest (setOff depot)
sets_out s depot None = refl
sets_out s depot (Some b) = refl

pub off : (s : List ℕ) (depot : ℕ) → depot < rows_of s → Driven s depot (setOff depot)
off s depot h = record { last = λ rest. refl; far = λ rest. refl; from = h; load = omega arith }

-- ---- the best of the stops left, by offers that agree
pub choose_alike : (f g : ℕ → Offer) → ((i : ℕ) → f i ≡ g i) → (c : StopChoice) (j : ℕ) (left : List ℕ) → choose f c j left ≡ choose g c j left
unfolding choose
choose_alike f g e c j [] = refl
choose_alike f g e c j (row ∷ rows) = ap (λ (o : Offer). choose f (better_stop c j o) (j + 1) rows) (e row) ∙ choose_alike f g e (better_stop c j (g row)) (j + 1) rows
