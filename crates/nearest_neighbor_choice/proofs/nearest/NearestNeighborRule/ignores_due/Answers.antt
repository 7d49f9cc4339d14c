-- `nearest_neighbor_choice::nearest::NearestNeighborRule::ignores_due` meets its contract. Assumes nothing.
use Rattle.std.proofs.Common.{rules}
use Rattle.nearest_neighbor_choice.specs.Heuristic.{ignores_due}
use Rattle.nearest_neighbor_choice.proofs.nearest.NearestNeighborRule.ignores_due.Goals as goal

pub returns : goal.returns
unfolding ignores_due
returns c = search rules
