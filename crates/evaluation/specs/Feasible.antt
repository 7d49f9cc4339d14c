-- docs/SCOPE.md#the-walk-of-a-round. What is asked of a round: whether it is lawful, its figures, and what it costs.
use Rattle.std.specs.Prelude.{ℕ, Bool, true, false, List, Float, Option, Some, None}
use Rattle.std.specs.Float.{inf}
use Rattle.evaluation_clock.specs.declared.clock.Schedule.{Schedule}
use Rattle.evaluation.specs.declared.limits.RouteLimits.{RouteLimits}
use Rattle.evaluation_clock.specs.Sums.{◌⊕◌}
use Rattle.evaluation.specs.Verdict.{is_feasible, eval_of, verdict_on}

-- "`route_feasible` passes the round"; the lateness that the walk sums on the way does not enter it
unfoldable pub route_feasible : List ℕ → ℕ → RouteLimits → List ℕ → Bool
route_feasible s depot limits route = is_feasible (verdict_on s depot limits route)

-- the same walk with its figures
unfoldable pub route_eval : List ℕ → ℕ → RouteLimits → List ℕ → Option Schedule
route_eval s depot limits route = eval_of (verdict_on s depot limits route)

-- the distance and what its lateness costs: a penalty is in units of distance
abbrev pub priced_distance : Schedule → Float
priced_distance k = k.distance ⊕ k.lateness_cost

-- infinite where the round is not allowed
unfoldable pub cost_of : Option Schedule → Float
cost_of (Some k) = priced_distance k
cost_of None = inf false

-- what a search minimises on one round
unfoldable pub effective_cost : List ℕ → ℕ → RouteLimits → List ℕ → Float
effective_cost s depot limits route = cost_of (route_eval s depot limits route)
