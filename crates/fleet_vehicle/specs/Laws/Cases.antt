-- Three vehicles, two of one id, computed from the definition.
use Rattle.std.specs.Prelude.{◌≡◌, refl, ℕ, List, [], ◌∷◌, None}
use Rattle.sheet.specs.declared.vehicle.Vehicle.{Vehicle}
use Rattle.sheet.specs.Values.{nought}
use Rattle.fleet_vehicle.specs.Find.{with_id, fleet_vehicle}

-- by its id and its capacity
abbrev carrying : ℕ → ℕ → Vehicle
carrying id capacity = record { id = id; depot = 0; capacity = capacity; cost_per_distance = nought; fixed_cost = nought; max_distance = None; max_duration = None; rest = None }

abbrev three : List Vehicle
three = carrying 7 1 ∷ carrying 8 2 ∷ carrying 8 3 ∷ []

pub record Rows : Type 0 where
  pub first_with : fleet_vehicle 8 three ≡ carrying 8 2
  pub first_of_all : fleet_vehicle 9 three ≡ carrying 7 1

pub cases : Rows
unfolding fleet_vehicle with_id
cases = record { first_with = refl; first_of_all = refl }
