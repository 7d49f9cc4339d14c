-- docs/SCOPE.md#forms-of-the-code. Document 01, "Each place and its form": "First vehicle with the id in a lent slice of structs, fallback the first".
use Rattle.std.specs.Prelude.{ℕ, cond, List, [], ◌∷◌, eqb, get_or, None}
use Rattle.sheet.specs.declared.vehicle.Vehicle.{Vehicle}
use Rattle.sheet.specs.Values.{nought}

-- "First vehicle with the id", and a fallback
unfoldable pub with_id : ℕ → Vehicle → List Vehicle → Vehicle
with_id id fallback [] = fallback
with_id id fallback (v ∷ vs) = cond (eqb v.id id) v (with_id id fallback vs)

-- what the first of no vehicles is said to be: the code is asked only of some
abbrev pub no_vehicle : Vehicle
no_vehicle = record { id = 0; depot = 0; capacity = 0; cost_per_distance = nought; fixed_cost = nought; max_distance = None; max_duration = None; rest = None }

-- "fallback the first"
unfoldable pub fleet_vehicle : ℕ → List Vehicle → Vehicle
fleet_vehicle id vehicles = with_id id (get_or vehicles 0 no_vehicle) vehicles
