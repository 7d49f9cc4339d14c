-- The terms of one depot whose rounds are all made by one vehicle: "Savings, insertion and sweep use the depot's first vehicle for all rounds."
use Rattle.std.specs.Prelude.{ℕ, Bool, not, ◌||◌, List}
use Rattle.sheet.specs.Values.{vehicle_of, fixed_in_distance}
use Rattle.evaluation.specs.Limits.{limits_at}
use Rattle.evaluation.specs.Feasible.{route_feasible}
use Rattle.evaluation.specs.Checks.{has_soft_windows, route_checks_needed}
use Rattle.constructive.specs.declared.terms.Terms.{Terms}

-- "windows and penalties are read from" the depot's own rows only; v is the vehicle, by its index
unfoldable pub terms_of : List ℕ → ℕ → ℕ → List ℕ → Terms
terms_of s depot v members = record {
  depot = depot;
  vehicle = v;
  constrained = route_checks_needed s depot members (limits_at s v);
  soft = has_soft_windows s depot members;
  capacity = (vehicle_of s v).capacity;
  fixed = fixed_in_distance (vehicle_of s v);
  limits = limits_at s v;
}

-- a round that may stand, but for its load
unfoldable pub route_fits : List ℕ → Terms → List ℕ → Bool
route_fits s t route = not t.constrained || route_feasible s t.depot t.limits route
