-- How a round that grows stands in the table of stops.
use Rattle.std.specs.Prelude.{ℕ, List, ◌++◌}
use Rattle.solomon_i1.specs.Insertion.{Growth, route_in, left_in}

-- its stops first, then those that are left
abbrev pub growth_stops : Growth → List ℕ
growth_stops g = route_in g ++ left_in g
