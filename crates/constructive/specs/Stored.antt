-- An outcome laid down in the tables, behind the rounds that they hold already: what every constructor does with its outcome.
use Rattle.std.specs.Prelude.{◌≡◌, ℕ, ◌+◌, ◌≤◌, List, [], ◌∷◌, length}
use Rattle.wire.specs.Bytes.{write}
use Rattle.constructive.specs.declared.tables.Filled.{Filled}
use Rattle.constructive.specs.Outcome.{Round, Outcome, stops_of}

-- where the rounds end, the first of which starts at `start`
unfoldable pub ends_from : ℕ → List Round → List ℕ
ends_from start [] = []
ends_from start (r ∷ rs) = (start + length r.stops) ∷ ends_from (start + length r.stops) rs

unfoldable pub vehicles_from : List Round → List ℕ
vehicles_from [] = []
vehicles_from (r ∷ rs) = r.vehicle ∷ vehicles_from rs

-- how many stops the rounds have
unfoldable pub routed_in : List Round → ℕ
routed_in [] = 0
routed_in (r ∷ rs) = length r.stops + routed_in rs

-- how far the tables are filled with these rounds more
abbrev pub filled_by : Filled → List Round → Filled
filled_by f rs = record { rounds = f.rounds + length rs; routed = f.routed + routed_in rs }

-- the tables before, how far they were filled, the outcome, the tables after
pub record Stored (stops ends vehicles : List ℕ) (f : Filled) (o : Outcome) (stops' ends' vehicles' : List ℕ) : Type 0 where
  pub stopped : stops' ≡ write stops f.routed (stops_of o)
  pub ended : ends' ≡ write ends f.rounds (ends_from f.routed o.rounds)
  pub driven : vehicles' ≡ write vehicles f.rounds (vehicles_from o.rounds)

-- room in the tables for a round of each stop that is not on one yet (a clause, and why: `Filled`)
pub record Room (ends vehicles : List ℕ) (f : Filled) (total : ℕ) : Type 0 where
  pub rounds : f.rounds ≤ f.routed
  pub ended : total ≤ length ends
  pub driven : total ≤ length vehicles
