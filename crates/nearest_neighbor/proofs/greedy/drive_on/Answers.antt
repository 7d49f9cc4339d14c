-- `nearest_neighbor::greedy::drive_on` meets its contract. Assumes nothing.
use native.Mathlib.Omega.{arith}
use Rattle.nearest_neighbor.specs.Heuristic.{onward_by}
use Rattle.nearest_neighbor_choice.specs.Laws.Partial.{loaded}
use Rattle.nearest_neighbor.proofs.greedy.drive_on.Goals as goal

pub overflow_add-result-2 : goal.overflow_add-result-2
overflow_add-result-2 g c = record { fits = omega (arith, loaded c.args.sheet.now c.args.partial c.args.row _ c.requires.partial_route c.requires.row_bound c.demand.ensures, c.requires.partial_route.few) }

pub returns : goal.returns
unfolding onward_by
returns g c = rw (c.distance.ensures, c.demand.ensures, c.pushed_by.ensures, c.clock_at.ensures)
