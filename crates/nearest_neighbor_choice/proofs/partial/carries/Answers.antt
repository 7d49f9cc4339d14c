-- `nearest_neighbor_choice::partial::carries` meets its contract. Assumes nothing.
use native.Mathlib.Omega.{arith}
use Rattle.nearest_neighbor_choice.specs.Laws.Partial.{loaded}
use Rattle.nearest_neighbor_choice.proofs.partial.carries.Goals as goal

pub overflow_add-result : goal.overflow_add-result
overflow_add-result c = record { fits = omega (arith, loaded c.args.sheet.now c.args.partial c.args.row _ c.requires.partial_route c.requires.row_bound c.demand.ensures, c.requires.partial_route.few) }
