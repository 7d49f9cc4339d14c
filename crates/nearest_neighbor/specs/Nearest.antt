-- docs/SCOPE.md#the-methods. Document 01, "nearest_neighbor.rs" and "nn_tw.rs": the round with a stop more, in the Rust's order of operations; each method whole.
use Rattle.std.specs.Prelude.{ℕ, ◌+◌, Bool, List, [], ◌∷◌, ◌++◌, Option, Some, None}
use Rattle.sheet.specs.Values.{demand_of, stop_of, vehicle_of, distance_of, time_of}
use Rattle.evaluation_clock.specs.Sums.{◌⊕◌}
use Rattle.evaluation.specs.Limits.{limits_of, limits_at}
use Rattle.evaluation.specs.declared.limits.RouteLimits.{RouteLimits}
use Rattle.evaluation.specs.Checks.{has_soft_windows}
use Rattle.constructive.specs.Outcome.{Outcome}
use Rattle.nearest_neighbor_choice.specs.Choice.{Trip}
use Rattle.evaluation_clock.specs.Window.{service_start}
use Rattle.nearest_neighbor_choice.specs.Offers.{nearest_offer, arrival_at, window_offer}
use Rattle.nearest_neighbor.specs.Greedy.{Rule, greedy}
use Rattle.sheet.specs.declared.vehicle.VehicleBreak.{VehicleBreak}

-- ---- nearest neighbour
-- its clock grows by the leg and the service, summed first
unfoldable pub nearest_onward : List ℕ → Trip → ℕ → Trip
nearest_onward s trip i = record {
  stops = trip.stops ++ (i ∷ []);
  current = i;
  load = trip.load + demand_of s i;
  travelled = trip.travelled ⊕ distance_of s trip.current i;
  clock = trip.clock ⊕ (time_of s trip.current i ⊕ (stop_of s i).service);
}

-- "Plain nearest neighbour without a rest goes on ignoring" the depot's due: then the vehicle's own limits count alone
abbrev pub nearest_limits : List ℕ → ℕ → Option VehicleBreak → RouteLimits
nearest_limits s v None = limits_of (vehicle_of s v)
nearest_limits s v (Some b) = limits_at s v

abbrev pub nearest_rule : List ℕ → ℕ → ℕ → Rule
nearest_rule s depot v = record { offer = nearest_offer s depot (vehicle_of s v) (nearest_limits s v (vehicle_of s v).rest); onward = nearest_onward s }

unfoldable pub nearest_neighbor : List ℕ → ℕ → List ℕ → List ℕ → Outcome
nearest_neighbor s depot members fleet = greedy (nearest_rule s depot) depot fleet members

-- ---- nn_tw
-- its clock waits
unfoldable pub window_onward : List ℕ → Trip → ℕ → Trip
window_onward s trip i = record {
  stops = trip.stops ++ (i ∷ []);
  current = i;
  load = trip.load + demand_of s i;
  travelled = trip.travelled ⊕ distance_of s trip.current i;
  clock = service_start (stop_of s i).gate (arrival_at s trip i) ⊕ (stop_of s i).service;
}

abbrev pub window_rule : List ℕ → ℕ → Bool → ℕ → Rule
window_rule s depot soft v = record { offer = window_offer s depot (vehicle_of s v) (limits_at s v) soft; onward = window_onward s }

unfoldable pub nearest_neighbor_tw : List ℕ → ℕ → List ℕ → List ℕ → Outcome
nearest_neighbor_tw s depot members fleet = greedy (window_rule s depot (has_soft_windows s depot members)) depot fleet members
