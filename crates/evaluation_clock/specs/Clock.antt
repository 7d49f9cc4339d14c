-- docs/SCOPE.md#the-walk-of-a-round. The clock of a round: "a value handed back". One label has the rest still to take, the other has it taken.
use Rattle.std.specs.Prelude.{ℕ, ◌+◌, Bool, true, false, ◌&&◌, ◌||◌, cond, List, Float, Option, Some, None, is_some}
use Rattle.std.specs.Float.Ieee.{lt, eq, le}
use Rattle.sheet.specs.Values.{stop_of, time_of}
use Rattle.sheet.specs.declared.customer.Stop.{Stop}
use Rattle.sheet.specs.declared.vehicle.VehicleBreak.{VehicleBreak}
use Rattle.evaluation_clock.specs.RestAnswer.{RestAnswer}
use Rattle.evaluation_clock.specs.declared.label.Label.{Label}
use Rattle.evaluation_clock.specs.declared.clock.Schedule.{Schedule}
use Rattle.evaluation_clock.specs.declared.clock.BreakClock.{BreakClock}
use Rattle.evaluation_clock.specs.Sums.{◌⊕◌}
use Rattle.evaluation_clock.specs.Serve.{at_depot, serve_of, serve_rested}

-- ---- one stop, from labels that may be gone
-- "drops a rested label that misses a hard window"
unfoldable pub step_of : Option Label → Float → Stop → Option Label
step_of (Some l) travel s = serve_of l travel s
step_of None travel s = None

-- the same with the rest before the stop
unfoldable pub step_rested : Option Label → Float → Stop → ℕ → VehicleBreak → Option Label
step_rested (Some l) travel s place b = serve_rested l travel s place b
step_rested None travel s place b = None

-- "Of two rested labels the smaller time wins, then the smaller lateness cost, then the one carried": whether y wins over a carried x
abbrev pub wins_over : Label → Label → Bool
wins_over y x = lt y.time x.time || (eq y.time x.time && lt y.lateness_cost x.lateness_cost)

-- the rested label that is kept
unfoldable pub earlier_of : Option Label → Option Label → Option Label
earlier_of None here = here
earlier_of (Some x) None = Some x
earlier_of (Some x) (Some y) = cond (wins_over y x) (Some y) (Some x)

-- the label with the rest taken: before, or here. A vehicle without a rest has none.
unfoldable pub taken_of : Option VehicleBreak → Option Label → Option Label → Float → Stop → ℕ → Option Label
taken_of None before after travel s place = None
taken_of (Some b) before after travel s place = earlier_of (step_of after travel s) (step_rested before travel s place b)

-- ---- the clock
-- the vehicle at row `prev` with its stops so far done, its next one counted `place`
pub record Clock : Type 0 where
  pub rest : Option VehicleBreak
  pub before : Option Label
  pub after : Option Label
  pub prev : ℕ
  pub place : ℕ

-- "It leaves the vehicle's depot at 0."
abbrev pub started : Option VehicleBreak → ℕ → Clock
started rest depot = record { rest = rest; before = Some at_depot; after = None; prev = depot; place = 1 }

-- one stop further: the rest skipped, and the rest taken
unfoldable pub moved_of : Clock → Float → Stop → ℕ → Clock
moved_of c travel s row = record {
  rest = c.rest;
  before = step_of c.before travel s;
  after = taken_of c.rest c.before c.after travel s c.place;
  prev = row;
  place = c.place + 1;
}

-- the clock driven on to a row: the time of the leg, and the stop there
abbrev pub next_of : List ℕ → Clock → ℕ → Clock
next_of s c row = moved_of c (time_of s c.prev row) (stop_of s row) row

-- whether a label is left
unfoldable pub alive_of : Clock → Bool
alive_of c = is_some c.before || is_some c.after

-- ---- home
-- "Duration is the last departure plus the time home, distance the sum of all legs."
abbrev pub home_schedule : Label → Float → Float → RestAnswer → Schedule
home_schedule l distance back rest = record {
  distance = distance;
  duration = l.time ⊕ back;
  lateness = l.lateness;
  lateness_cost = l.lateness_cost;
  rest = rest;
}

-- with no rest taken
unfoldable pub unrested : Option Label → Float → Float → Option Schedule
unrested (Some l) distance back = Some (home_schedule l distance back None)
unrested None distance back = None

-- with the rest taken: "No rest stands on the way home"
unfoldable pub end_of : Option Label → Float → Float → Option Schedule
end_of (Some l) distance back = Some (home_schedule l distance back l.rest)
end_of None distance back = None

-- "No rest is needed if the unrested return is ≤ earliest."
unfoldable pub homeward : VehicleBreak → Option Label → Option Label → Float → Float → Option Schedule
homeward b (Some l) after distance back = cond (le (l.time ⊕ back) b.earliest) (Some (home_schedule l distance back None)) (end_of after distance back)
homeward b None after distance back = end_of after distance back

unfoldable pub returned : Option VehicleBreak → Option Label → Option Label → Float → Float → Option Schedule
returned None before after distance back = unrested before distance back
returned (Some b) before after distance back = homeward b before after distance back

-- the clock brought home, with `distance` driven in all and `back` the time of the way home
abbrev pub finish_of : Clock → Float → Float → Option Schedule
finish_of c distance back = returned c.rest c.before c.after distance back

-- ---- the clock as the code keeps it, of a vehicle with a rest
abbrev pub clock_of : BreakClock → Clock
clock_of c = record { rest = Some c.rest; before = c.before; after = c.after; prev = c.prev; place = c.place }

abbrev pub break_clock : VehicleBreak → Clock → BreakClock
break_clock b c = record { rest = b; before = c.before; after = c.after; prev = c.prev; place = c.place }

-- one stop further
abbrev pub next_by : List ℕ → BreakClock → ℕ → BreakClock
next_by s c row = break_clock c.rest (next_of s (clock_of c) row)
