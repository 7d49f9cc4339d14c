-- `evaluator::build_route` meets its contract. Assumes nothing.
use Rattle.evaluator.specs.Record.{build_route}
use Rattle.evaluator.proofs.build_route.Goals as goal

pub returns : goal.returns
unfolding build_route
returns c = rw (c.«record».ensures, c.progress_after.ensures.value, c.place_rest-placed.ensures)
