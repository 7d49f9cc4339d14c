-- Either rule: the definition's, and a round so far as it is kept with a stop more.
use Rattle.std.specs.Prelude.{ℕ, ◌+◌, cond, List}
use Rattle.sheet.specs.Values.{demand_of, vehicle_of, distance_of}
use Rattle.evaluation_clock.specs.Sums.{◌⊕◌}
use Rattle.evaluation.specs.Limits.{limits_of, limits_at}
use Rattle.evaluation.specs.declared.limits.RouteLimits.{RouteLimits}
use Rattle.nearest_neighbor_choice.specs.declared.partial.Partial.{Partial}
use Rattle.nearest_neighbor_choice.specs.Heuristic.{Heuristic, Nearest, NearestTw, ignores_due, clock_by}
use Rattle.nearest_neighbor_choice.specs.Partial.{pushed_by}
use Rattle.nearest_neighbor.specs.Greedy.{Rule}
use Rattle.nearest_neighbor.specs.Nearest.{nearest_rule, window_rule}

-- what a vehicle's rounds are held to: the depot's due too, but for nearest neighbour without a rest
abbrev pub limits_by : List ℕ → Heuristic → ℕ → RouteLimits
limits_by s h v = cond (ignores_due h (vehicle_of s v).rest) (limits_of (vehicle_of s v)) (limits_at s v)

unfoldable pub rule_of : List ℕ → ℕ → Heuristic → ℕ → Rule
rule_of s depot Nearest v = nearest_rule s depot v
rule_of s depot (NearestTw soft) v = window_rule s depot soft v

-- one stop further, with the clock that its rule sums
unfoldable pub onward_by : List ℕ → Heuristic → Partial → ℕ → Partial
onward_by s h partial i = record {
  current = i;
  served = partial.served + 1;
  load = partial.load + demand_of s i;
  travelled = partial.travelled ⊕ distance_of s partial.current i;
  clock = clock_by s h partial i;
  rest = pushed_by s partial.rest i;
}
