-- What the stops of a round ask of a vehicle.
use Rattle.std.specs.Prelude.{ℕ, ◌+◌, List, [], ◌∷◌}
use Rattle.sheet.specs.Values.{demand_of}

-- the demands of its stops, summed
unfoldable pub load_of : List ℕ → List ℕ → ℕ
load_of s [] = 0
load_of s (i ∷ is) = demand_of s i + load_of s is
