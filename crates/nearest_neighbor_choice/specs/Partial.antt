-- A round so far as it is kept: the clock after it instead of its stops. What a rule says of a next stop, read from that.
use Rattle.std.specs.Prelude.{ℕ, ◌*◌, ◌≤◌, ◌<◌, Bool, false, not, ◌&&◌, List, [], ◌∷◌, eqb, Float, Option, Some, None}
use Rattle.std.specs.Float.Ieee.{le}
use Rattle.sheet.specs.Fields.{rows_of}
use Rattle.sheet.specs.Accepted.{Accepted}
use Rattle.sheet.specs.Values.{nought, stop_of, distance_of, time_of, fixed_in_distance}
use Rattle.sheet.specs.declared.vehicle.Vehicle.{Vehicle}
use Rattle.evaluation_clock.specs.Sums.{◌⊕◌, ◌⊗◌}
use Rattle.evaluation_clock.specs.Clock.{started, next_of, unrested, finish_of, clock_of, break_clock, next_by}
use Rattle.evaluation.specs.Limits.{allow_of}
use Rattle.evaluation_clock.specs.Clocked.{Clocked}
use Rattle.evaluation.specs.Verdict.{no_schedule, held_to, mended_by, verdict_of, is_feasible}
use Rattle.evaluation.specs.Feasible.{effective_cost}
use Rattle.evaluation.specs.declared.limits.RouteLimits.{RouteLimits}
use Rattle.nearest_neighbor_choice.specs.declared.partial.Partial.{Partial}
use Rattle.nearest_neighbor_choice.specs.declared.nn_tw.Candidate.{Candidate}
use Rattle.nearest_neighbor_choice.specs.Choice.{Offer, Trip}
use Rattle.evaluation_clock.specs.Window.{service_start}
use Rattle.nearest_neighbor_choice.specs.Offers.{trip_carries, offer_if, there_and_home, arrival_at, late_at, penalty_of, missed, marginal}
use Rattle.sheet.specs.declared.vehicle.VehicleBreak.{VehicleBreak}
use Rattle.evaluation_clock.specs.declared.clock.BreakClock.{BreakClock}

-- the figures of the round so far; its stops are not kept
abbrev pub trip_of : Partial → Trip
trip_of partial = record { stops = []; current = partial.current; load = partial.load; travelled = partial.travelled; clock = partial.clock }

-- ---- the clock that is kept
abbrev pub clock_for : Option VehicleBreak → ℕ → Option BreakClock
clock_for None depot = None
clock_for (Some b) depot = Some (break_clock b (started (Some b) depot))

unfoldable pub pushed_by : List ℕ → Option BreakClock → ℕ → Option BreakClock
pushed_by s None row = None
pushed_by s (Some c) row = Some (next_by s c row)

-- the clock, pushed once and brought home, says whether the limits are kept
unfoldable pub allows_by : List ℕ → ℕ → RouteLimits → Option BreakClock → ℕ → Float → Float → Bool
allows_by s depot limits None i distance duration = allow_of limits distance duration
allows_by s depot limits (Some c) i distance duration = is_feasible (verdict_of limits (next_of s (clock_of c) i) distance (time_of s i depot))

-- the two questions of the code that make it up: without a rest at home
unfoldable pub allows_on_way : List ℕ → ℕ → RouteLimits → Option BreakClock → ℕ → Float → Float → Bool
allows_on_way s depot limits None i distance duration = allow_of limits distance duration
allows_on_way s depot limits (Some c) i distance duration = is_feasible (held_to limits (finish_of (next_of s (clock_of c) i) distance (time_of s i depot)))

-- and with one
unfoldable pub allows_home : List ℕ → ℕ → RouteLimits → Option BreakClock → ℕ → Float → Bool
allows_home s depot limits None i distance = false
allows_home s depot limits (Some c) i distance =
    let next = next_of s (clock_of c) i in
    limits.at_home && is_feasible (mended_by limits c.rest next.place (unrested next.before distance (time_of s i depot)) no_schedule)

-- ---- the round
abbrev pub empty_partial : Option VehicleBreak → ℕ → Partial
empty_partial rest depot = record { current = depot; served = 0; load = 0; travelled = nought; clock = nought; rest = clock_for rest depot }

abbrev pub partial_carries : List ℕ → Vehicle → Partial → ℕ → Bool
partial_carries s v partial i = trip_carries s v (trip_of partial) i

-- ---- nearest neighbour
-- whether the round can take a stop
abbrev pub nearest_takes : List ℕ → ℕ → Vehicle → RouteLimits → Partial → ℕ → Bool
nearest_takes s depot v limits partial i =
    let trip = trip_of partial in
    trip_carries s v trip i
    && allows_by s depot limits partial.rest i (there_and_home s depot trip i)
    (trip.clock ⊕ time_of s trip.current i ⊕ (stop_of s i).service ⊕ time_of s i depot)

unfoldable pub nearest_by : List ℕ → ℕ → Vehicle → RouteLimits → Partial → ℕ → Offer
nearest_by s depot v limits partial i = offer_if (nearest_takes s depot v limits partial i) (distance_of s partial.current i)

abbrev pub nearest_clock : List ℕ → Partial → ℕ → Float
nearest_clock s partial i = partial.clock ⊕ (time_of s partial.current i ⊕ (stop_of s i).service)

-- ---- nn_tw
abbrev pub partial_too_dear : List ℕ → ℕ → Vehicle → RouteLimits → Bool → Partial → ℕ → Float → Bool
partial_too_dear s depot v limits soft partial i lateCost =
    (soft && not (eqb partial.served 0))
    && le (effective_cost s depot limits (i ∷ []) ⊕ fixed_in_distance v) (marginal s depot (trip_of partial) i lateCost)

-- what the key of a stop is made of
abbrev pub candidate_of : List ℕ → Partial → ℕ → Candidate
candidate_of s partial i =
    let gate = (stop_of s i).gate in
    let arrival = arrival_at s (trip_of partial) i in
    let late = late_at gate arrival in
    record {
      arrival = arrival;
      late = late;
      late_cost = penalty_of gate ⊗ late;
      key = distance_of s partial.current i ⊕ penalty_of gate ⊗ late;
    }

-- whether the round can take it
abbrev pub takes_by : List ℕ → ℕ → Vehicle → RouteLimits → Bool → Partial → ℕ → Candidate → Bool
takes_by s depot v limits soft partial i seen =
    let gate = (stop_of s i).gate in
    trip_carries s v (trip_of partial) i
    && (not (missed gate seen.late)
    && (allows_by s depot limits partial.rest i (there_and_home s depot (trip_of partial) i) (service_start gate seen.arrival ⊕ (stop_of s i).service ⊕ time_of s i depot)
    && not (partial_too_dear s depot v limits soft partial i seen.late_cost)))

unfoldable pub window_by : List ℕ → ℕ → Vehicle → RouteLimits → Bool → Partial → ℕ → Offer
window_by s depot v limits soft partial i = let seen = candidate_of s partial i in offer_if (takes_by s depot v limits soft partial i seen) seen.key

abbrev pub window_clock : List ℕ → Partial → ℕ → Float
window_clock s partial i = service_start (stop_of s i).gate (arrival_at s (trip_of partial) i) ⊕ (stop_of s i).service

-- ---- what its steps ask: clauses, as `Clocked`
abbrev pub ClockKept : List ℕ → Option BreakClock → Type 0
ClockKept s None = Unit
ClockKept s (Some c) = Clocked s c

-- on an accepted sheet, at a row, with at most a million a stop loaded, and room for one stop more
-- (a clause, not an invariant: it is a fact of both, and with the sheet in it each definition would have to take it apart)
pub record PartialRoute (s : List ℕ) (partial : Partial) : Type 0 where
  pub sheet : Accepted s
  pub from : partial.current < rows_of s
  pub few : partial.served ≤ 100
  pub load : partial.load ≤ 1000000 * partial.served
  pub ticking : ClockKept s partial.rest
