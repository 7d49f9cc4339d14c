-- Either rule: what it says of a round so far as it is kept.
use Rattle.std.specs.Prelude.{ℕ, Bool, false, List, Float, Option, is_none}
use Rattle.sheet.specs.declared.vehicle.Vehicle.{Vehicle}
use Rattle.sheet.specs.declared.vehicle.VehicleBreak.{VehicleBreak}
use Rattle.evaluation.specs.declared.limits.RouteLimits.{RouteLimits}
use Rattle.nearest_neighbor_choice.specs.declared.partial.Partial.{Partial}
use Rattle.nearest_neighbor_choice.specs.Choice.{Offer}
use Rattle.nearest_neighbor_choice.specs.Partial.{nearest_by, nearest_clock, window_by, window_clock}

-- which of the two; with windows, whether some window has a penalty
pub data Heuristic : Type 0 where
  Nearest : Heuristic
  NearestTw : Bool → Heuristic

-- whether the depot's due is passed over: by nearest neighbour without a rest
unfoldable pub ignores_due : Heuristic → Option VehicleBreak → Bool
ignores_due Nearest rest = is_none rest
ignores_due (NearestTw soft) rest = false

unfoldable pub offer_by : List ℕ → ℕ → Heuristic → Vehicle → RouteLimits → Partial → ℕ → Offer
offer_by s depot Nearest v limits partial = nearest_by s depot v limits partial
offer_by s depot (NearestTw soft) v limits partial = window_by s depot v limits soft partial

-- the clock after a stop
unfoldable pub clock_by : List ℕ → Heuristic → Partial → ℕ → Float
clock_by s Nearest partial i = nearest_clock s partial i
clock_by s (NearestTw soft) partial i = window_clock s partial i
