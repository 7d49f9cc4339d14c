-- docs/SCOPE.md#the-haulage-tariff. "figures walked anew from the chains (here and below, as `build_route` does)": those of every round of a plan, each with its own vehicle and
-- depot. What the step leaves that reads a plan and walks its rounds.
use Rattle.std.specs.Prelude.{◌≡◌, ℕ, Bool, true, List, map, length}
use Rattle.sheet.specs.Accepted.{Accepted}
use Rattle.constructive.specs.Outcome.{Round}
use Rattle.constructive.specs.Tables.{RoundsOf}
use Rattle.plan.specs.Stated.{built_record}
use Rattle.plan.specs.Read.{rounds_at, read_plan, plan_right}
use Rattle.plan_door.specs.Door.{door_refusal}
use Rattle.plan_figures.specs.declared.RouteFigures.{RouteFigures}

-- a round's figures
abbrev pub route_figures : List ℕ → Round → RouteFigures
route_figures s r = record { distance = (built_record s r).distance; duration = (built_record s r).duration }

-- an accepted sheet with a plan that is right, and the figures of its rounds
pub record Walked (s plan : List ℕ) (room one : Bool) (walked : List RouteFigures) : Type 0 where
  pub free : door_refusal s plan room one ≡ 0
  pub sheet : Accepted s
  pub right : plan_right s plan ≡ true
  pub rounds : length walked ≡ rounds_at plan
  pub driven : RoundsOf s (read_plan s plan).rounds
  pub figures : walked ≡ map (route_figures s) (read_plan s plan).rounds
