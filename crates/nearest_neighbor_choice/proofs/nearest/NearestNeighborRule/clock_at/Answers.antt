-- `nearest_neighbor_choice::nearest::NearestNeighborRule::clock_at` meets its contract. Assumes nothing.
use Rattle.nearest_neighbor_choice.specs.Heuristic.{clock_by}
use Rattle.nearest_neighbor_choice.proofs.nearest.NearestNeighborRule.clock_at.Goals as goal

pub returns : goal.returns
unfolding clock_by
returns c = rw (c.travel_time.ensures, c.stop_at-stop.ensures)
