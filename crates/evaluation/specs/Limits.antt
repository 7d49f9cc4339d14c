-- docs/SCOPE.md#the-walk-of-a-round. What a vehicle and its depot ask of a round besides the capacity.
use Rattle.std.specs.Prelude.{ℕ, Bool, true, false, ◌&&◌, cond, List, Float, Option, Some, None, is_none}
use Rattle.std.specs.Float.Ieee.{lt, le}
use Rattle.sheet.specs.Values.{stop_of, vehicle_of, rests_home_at}
use Rattle.sheet.specs.declared.customer.Gate.{Gate}
use Rattle.sheet.specs.declared.customer.Gate.TheVariants.{Open, Hard, Soft}
use Rattle.sheet.specs.declared.vehicle.Vehicle.{Vehicle}
use Rattle.evaluation.specs.declared.limits.RouteLimits.{RouteLimits}
use Rattle.sheet.specs.declared.vehicle.VehicleBreak.{VehicleBreak}

-- its maxima and its rest, each there where it is marked
abbrev pub limits_of : Vehicle → RouteLimits
limits_of v = record { max_distance = v.max_distance; max_duration = v.max_duration; rest = v.rest; at_home = false }

-- "trucks must be home by its due time": a depot's due, where its row has a window, whatever its penalty
abbrev pub latest_return : Gate → Option Float
latest_return Open = None
latest_return (Hard w) = Some w.due
latest_return (Soft w penalty) = Some w.due

-- two limits in one: the lower, which is kept exactly where both are (Laws/Limits)
abbrev pub lower_of : Option Float → Option Float → Option Float
lower_of None b = b
lower_of (Some x) None = Some x
lower_of (Some x) (Some y) = cond (lt y x) (Some y) (Some x)

-- "a round's duration must also be no later than its depot's due"; and whether the rest may be taken at home
abbrev pub returning_by : Option Float → Bool → RouteLimits → RouteLimits
returning_by due home l = record { max_distance = l.max_distance; max_duration = lower_of l.max_duration due; rest = l.rest; at_home = home }

-- read from a sheet: the vehicle is told by its index, and its depot is its own
-- (that the sheet has a row is a clause: one of 0 rows counts a depot too)
unfoldable pub limits_at : List ℕ → ℕ → RouteLimits
limits_at s v = returning_by (latest_return (stop_of s (vehicle_of s v).depot).gate) (rests_home_at s v) (limits_of (vehicle_of s v))

-- nothing to keep: no maximum and no rest
unfoldable pub is_unlimited : RouteLimits → Bool
is_unlimited l = is_none l.max_distance && (is_none l.max_duration && is_none l.rest)

-- "limits are inclusive"
abbrev pub within_of : Option Float → Float → Bool
within_of None x = true
within_of (Some end) x = le x end

-- "Over a marked maximum fails."
unfoldable pub allow_of : RouteLimits → Float → Float → Bool
allow_of l distance duration = within_of l.max_distance distance && within_of l.max_duration duration
