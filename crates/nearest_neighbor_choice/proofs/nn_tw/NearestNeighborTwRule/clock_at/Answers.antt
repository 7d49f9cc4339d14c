-- `nearest_neighbor_choice::nn_tw::NearestNeighborTwRule::clock_at` meets its contract. Assumes nothing.
use Rattle.nearest_neighbor_choice.specs.Heuristic.{clock_by}
use Rattle.nearest_neighbor_choice.proofs.nn_tw.NearestNeighborTwRule.clock_at.Goals as goal

pub returns : goal.returns
unfolding clock_by
returns c = rw (c.service_start.ensures, c.arrival_at.ensures, c.stop_at-stop.ensures)
