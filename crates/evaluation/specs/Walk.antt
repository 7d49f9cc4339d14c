-- docs/SCOPE.md#the-walk-of-a-round. The walk of a round from its depot and back, stop by stop, with a rest and without one.
use Rattle.std.specs.Prelude.{ℕ, Float, Option}
use mathlib.Core.List.{List, foldl}
use Rattle.sheet.specs.Values.{nought, distance_of, time_of}
use Rattle.evaluation_clock.specs.Sums.{◌⊕◌}
use Rattle.evaluation_clock.specs.Clock.{Clock, started, next_of, finish_of}
use Rattle.sheet.specs.declared.vehicle.VehicleBreak.{VehicleBreak}
use Rattle.evaluation_clock.specs.declared.clock.Schedule.{Schedule}

-- the vehicle with its stops so far done: its clock, and the legs that it has driven
pub record Position : Type 0 where
  pub clock : Clock
  pub distance : Float

-- "It leaves the vehicle's depot at 0."
abbrev pub start_at : Option VehicleBreak → ℕ → Position
start_at rest depot = record { clock = started rest depot; distance = nought }

-- one stop further
unfoldable pub drive_to : List ℕ → Position → ℕ → Position
drive_to s p row = record { clock = next_of s p.clock row; distance = p.distance ⊕ distance_of s p.clock.prev row }

-- on over some rows
abbrev pub walked_over : List ℕ → Position → List ℕ → Position
walked_over s p rows = foldl (drive_to s) p rows

-- "Duration is the last departure plus the time home, distance the sum of all legs."
unfoldable pub home_from : List ℕ → ℕ → Position → Option Schedule
home_from s depot p = finish_of p.clock (p.distance ⊕ distance_of s p.clock.prev depot) (time_of s p.clock.prev depot)

-- the whole round
unfoldable pub scheduled_of : List ℕ → ℕ → Option VehicleBreak → List ℕ → Option Schedule
scheduled_of s depot rest route = home_from s depot (walked_over s (start_at rest depot) route)
