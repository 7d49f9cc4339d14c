-- A round walked up to some place without a rest, for the code that walks on from there.
use Rattle.std.specs.Prelude.{◌≡◌, ℕ, ◌+◌, ◌≤◌, ◌<◌, List, length, take, Some, None, IfSome}
use Rattle.sheet.specs.Fields.{rows_of}
use Rattle.evaluation.specs.declared.limits.RouteLimits.{RouteLimits}
use Rattle.evaluation_prefix.specs.declared.Prefix.{Prefix}
use Rattle.evaluation.specs.Underway.{setting_out, WalksTo}
use Rattle.evaluation.specs.Walk.{start_at, walked_over}

-- "It leaves the vehicle's depot at 0."
abbrev pub at_start : ℕ → Prefix
at_start depot = record { stops = 0; walk = Some (setting_out depot) }

-- what the first stops of a round come to. Where the vehicle has a rest, none is behind.
pub record WalkedBefore (s : List ℕ) (depot : ℕ) (limits : RouteLimits) (round : List ℕ) (a : Prefix) : Type 0 where
  pub from : IfSome a.walk (λ w. w.prev < rows_of s)
  pub place : a.stops ≤ length round
  pub unrested : 0 < a.stops → limits.rest ≡ None
  pub stands : WalksTo a.walk (a.stops + 1) (walked_over s (start_at None depot) (take a.stops round))
