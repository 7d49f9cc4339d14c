-- docs/SCOPE.md#the-walk-of-a-round. "A schedule is lawful if no hard window is missed, the rest stands so or is not needed, and both maxima are kept." Here alone a schedule and
-- the limits are joined.
use Rattle.std.specs.Prelude.{ℕ, Bool, true, false, ◌&&◌, cond, List, Float, Option, Some, None}
use Rattle.std.specs.Float.Ieee.{le}
use Rattle.sheet.specs.Values.{distance_of, time_of}
use Rattle.evaluation_clock.specs.RestAnswer.{RestAnswer}
use Rattle.sheet.specs.declared.vehicle.VehicleBreak.{VehicleBreak}
use Rattle.evaluation_clock.specs.declared.clock.Schedule.{Schedule}
use Rattle.evaluation.specs.declared.limits.RouteLimits.{RouteLimits}
use Rattle.evaluation_clock.specs.Sums.{◌⊕◌}
use Rattle.evaluation.specs.Limits.{allow_of}
use Rattle.evaluation_clock.specs.Serve.{later_of}
use Rattle.evaluation_clock.specs.Clock.{Clock, unrested, finish_of}
use Rattle.evaluation.specs.Walk.{Position, start_at, walked_over}

-- a schedule that keeps the limits, one that is over a limit, or none
pub data Verdict : Type 0 where
  allowed : Schedule → Verdict
  over_limit : Schedule → Verdict
  no_schedule : Verdict

-- "and both maxima are kept"
unfoldable pub held_to : RouteLimits → Option Schedule → Verdict
held_to limits (Some k) = cond (allow_of limits k.distance k.duration) (allowed k) (over_limit k)
held_to limits None = no_schedule

-- ---- a rest at the depot on return
-- "a rest may start at the later of unrested return and earliest"
abbrev pub home_start : VehicleBreak → Float → Float
home_start b back = later_of back b.earliest

-- "not after latest (..) and the limits are kept", with "the duration is its end"
unfoldable pub mends : RouteLimits → VehicleBreak → Float → Float → Bool
mends limits b distance back = le (home_start b back) b.latest && allow_of limits distance (home_start b back ⊕ b.duration)

-- the schedule k without a rest, with it at home; "The rest place is the number of stops plus one.": home is the place after the last stop
abbrev pub rested_home : VehicleBreak → ℕ → Schedule → Schedule
rested_home b place k = record {
  distance = k.distance;
  duration = home_start b k.duration ⊕ b.duration;
  lateness = k.lateness;
  lateness_cost = k.lateness_cost;
  rest = Some (place, (home_start b k.duration));
}

-- "if the unrested walk misses no hard window": what is told of the round otherwise is v
abbrev pub mended_by : RouteLimits → VehicleBreak → ℕ → Option Schedule → Verdict → Verdict
mended_by limits b place None v = v
mended_by limits b place (Some k) v = cond (mends limits b k.distance k.duration) (allowed (rested_home b place k)) v

-- "Vehicle mark 8 allows it."
abbrev pub mended : RouteLimits → Option VehicleBreak → ℕ → Option Schedule → Verdict → Verdict
mended limits None place plain v = v
mended limits (Some b) place plain v = cond limits.at_home (mended_by limits b place plain v) v

-- "If `route_feasible` turns a round down today": only then
unfoldable pub or_home : RouteLimits → Option VehicleBreak → ℕ → Option Schedule → Verdict → Verdict
or_home limits rest place plain (allowed k) = allowed k
or_home limits rest place plain (over_limit k) = mended limits rest place plain (over_limit k)
or_home limits rest place plain no_schedule = mended limits rest place plain no_schedule

-- ---- the verdict
-- on a clock brought home, with `distance` driven in all and `back` the time of the way home
unfoldable pub verdict_of : RouteLimits → Clock → Float → Float → Verdict
verdict_of limits c distance back = or_home limits c.rest c.place (unrested c.before distance back) (held_to limits (finish_of c distance back))

-- on a position
unfoldable pub verdict_from : List ℕ → ℕ → RouteLimits → Position → Verdict
verdict_from s depot limits p = verdict_of limits p.clock (p.distance ⊕ distance_of s p.clock.prev depot) (time_of s p.clock.prev depot)

-- on a round
abbrev pub verdict_on : List ℕ → ℕ → RouteLimits → List ℕ → Verdict
verdict_on s depot limits route = verdict_from s depot limits (walked_over s (start_at limits.rest depot) route)

-- ---- what is asked of it
abbrev pub is_feasible : Verdict → Bool
is_feasible (allowed k) = true
is_feasible (over_limit k) = false
is_feasible no_schedule = false

-- the figures, where the limits allow them
abbrev pub eval_of : Verdict → Option Schedule
eval_of (allowed k) = Some k
eval_of (over_limit k) = None
eval_of no_schedule = None

-- where the schedule puts the rest; a round without a schedule has none
abbrev pub placed_rest : Verdict → RestAnswer
placed_rest (allowed k) = k.rest
placed_rest (over_limit k) = k.rest
placed_rest no_schedule = None
