-- A round so far with a stop more. Assumes nothing.
use Rattle.std.specs.Prelude.{◌≡◌, ℕ, ◌+◌, ◌*◌, ◌≤◌, ◌<◌, List}
use Rattle.std.proofs.Common.{arith}
use Rattle.sheet.specs.Fields.{rows_of}
use Rattle.sheet.specs.Values.{demand_of}
use Rattle.sheet.specs.Laws.Finite.{demand_bounded}
use Rattle.nearest_neighbor_choice.specs.declared.partial.Partial.{Partial}
use Rattle.nearest_neighbor_choice.specs.Partial.{PartialRoute}

-- a load with a stop more
pub loaded : (s : List ℕ) (partial : Partial) (row demand : ℕ) → PartialRoute s partial → row < rows_of s → demand ≡ demand_of s row → partial.load + demand ≤ 1000000 * (partial.served + 1)
loaded s partial row demand ok h e = omega (arith, ok.load, demand_bounded s ok.sheet row h, e)
