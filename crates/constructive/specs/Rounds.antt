-- When a round passes, by the figures of its walk.
use Rattle.std.specs.Prelude.{ℕ, ◌≤◌, ◌<◌, Bool, List, T, length}
use Rattle.sheet.specs.Values.{vehicle_of}
use Rattle.evaluation.specs.Limits.{limits_at}
use Rattle.evaluation.specs.Feasible.{route_feasible}
use Rattle.constructive.specs.Outcome.{Round}
use Rattle.constructive.specs.Load.{load_of}

-- "`route_feasible` passes the round": of the vehicle at index v, from a depot
abbrev pub passes : List ℕ → ℕ → ℕ → List ℕ → Bool
passes s depot v stops = route_feasible s depot (limits_at s v) stops

-- a round with stops: "It keeps capacity if its demands sum to no more than its vehicle's."
pub record Carried (s : List ℕ) (r : Round) : Type 0 where
  pub some : 0 < length r.stops
  pub capacity : load_of s r.stops ≤ (vehicle_of s r.vehicle).capacity

-- and passes, from the depot
pub record Feasible (s : List ℕ) (depot : ℕ) (r : Round) : Type 0 where
  pub carried : Carried s r
  pub feasible : T (passes s depot r.vehicle r.stops)
