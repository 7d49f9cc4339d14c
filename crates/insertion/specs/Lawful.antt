-- docs/SCOPE.md#the-walk-of-a-round. Document 01: "A place for a stop is lawful if the load stays within capacity and `route_feasible` passes the round with the stop in it." So on every
-- sheet, by the walk's f64 figures; a lawful round over natural numbers is a definition by itself.
use Rattle.std.specs.Prelude.{◌≡◌, ℕ, ◌+◌, ◌≤◌, Bool, false, ◌&&◌, List, leb, length}
use Rattle.lists.specs.Moved.{inserted}
use Rattle.sheet.specs.Values.{demand_of, vehicle_of}
use Rattle.constructive.specs.Outcome.{Round}
use Rattle.constructive.specs.Load.{load_of}
use Rattle.constructive.specs.Rounds.{passes}

-- "the load stays within capacity": of a round of the vehicle at index v
abbrev pub load_fits : List ℕ → ℕ → List ℕ → ℕ → Bool
load_fits s v stops row = leb (load_of s stops + demand_of s row) (vehicle_of s v).capacity

-- the place before the k-th stop, from 0
abbrev pub lawful_place : List ℕ → ℕ → ℕ → List ℕ → ℕ → ℕ → Bool
lawful_place s depot v stops row k = load_fits s v stops row && passes s depot v (inserted k row stops)

-- closed to a stop: it has no lawful place, "from before its first stop to after its last"
abbrev pub ClosedTo : List ℕ → ℕ → Round → ℕ → Type 0
ClosedTo s depot r row = (k : ℕ) → k ≤ length r.stops → lawful_place s depot r.vehicle r.stops row k ≡ false
