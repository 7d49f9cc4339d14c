-- What a writer asks of the figures: none is a NaN, which has no bits of its own.
use Rattle.std.specs.Prelude.{ℕ, ◌≤◌, ◌<◌, not, List, [], ◌∷◌, T, length, get_or, Float}
use Rattle.std.specs.Float.Ieee.{is_nan}
use Rattle.sheet.specs.Fields.{rows_of}
use Rattle.sheet.specs.Values.{vehicle_of}
use Rattle.sheet.specs.declared.vehicle.Vehicle.{Vehicle}
use Rattle.sheet.specs.Accepted.{Sized}
use Rattle.evaluation_clock.specs.Serve.{rest_start}
use Rattle.evaluation.specs.Limits.{limits_at}
use Rattle.evaluation.specs.declared.limits.RouteLimits.{RouteLimits}
use Rattle.evaluator.specs.Record.{placed_of, begin_of, visited_of, build_route, price_start}
use Rattle.evaluator.specs.declared.Progress.{Progress}
use Rattle.evaluator.specs.declared.Placed.{Placed}
use Rattle.evaluator.specs.declared.Record.{Record}
use Rattle.constructive.specs.Outcome.{Round}
use Rattle.constructive.specs.Tables.{RoundOf, RoundsOf}
use Rattle.plan.specs.Plan.{price_of}

abbrev pub Number : Float → Type 0
Number x = T (not (is_nan x))

pub record VisitWritable (p : Progress) : Type 0 where
  pub arrival : Number p.arrival
  pub departure : Number p.departure

pub record RecordWritable (r : Record) : Type 0 where
  pub distance : Number r.distance
  pub duration : Number r.duration
  pub lateness : Number r.lateness
  pub cost : Number r.lateness_cost
  pub start : Number (rest_start r.rest)

-- the visits of a round's stops left
unfoldable pub VisitsWritable : List ℕ → Placed → Progress → List ℕ → Type 0
VisitsWritable s t p [] = Unit
VisitsWritable s t p (row ∷ rows) = VisitWritable (visited_of s t p row) × VisitsWritable s t (visited_of s t p row) rows

-- a vehicle's round
pub record RoundWritable (s : List ℕ) (v : Vehicle) (limits : RouteLimits) (stops : List ℕ) : Type 0 where
  pub visits : VisitsWritable s (placed_of s v.depot limits stops) (begin_of v.depot) stops
  pub figures : RecordWritable (build_route s v.depot limits stops)

-- every figure of every plan of the sheet
pub record Writable (s : List ℕ) : Type 0 where
  pub round : (r : Round) → RoundOf s r → RoundWritable s (vehicle_of s r.vehicle) (limits_at s r.vehicle) r.stops
  pub cost : (rs : List Round) → length rs ≤ rows_of s → RoundsOf s rs → Number (price_of s price_start rs)

-- stops that are chained, and not visited
pub record Chained (s chain : List ℕ) : Type 0 where
  pub sheet : Sized s
  pub row : (i : ℕ) → i < length chain → get_or chain i 0 < rows_of s
