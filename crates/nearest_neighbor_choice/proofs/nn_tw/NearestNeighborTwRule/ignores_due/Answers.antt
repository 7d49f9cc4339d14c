-- `nearest_neighbor_choice::nn_tw::NearestNeighborTwRule::ignores_due` meets its contract. Assumes nothing.
use mathlib.Core.Path.{refl}
use Rattle.nearest_neighbor_choice.specs.Heuristic.{ignores_due}
use Rattle.nearest_neighbor_choice.proofs.nn_tw.NearestNeighborTwRule.ignores_due.Goals as goal

pub returns : goal.returns
unfolding ignores_due
returns c = refl
