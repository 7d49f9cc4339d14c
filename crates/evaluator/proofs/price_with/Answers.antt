-- `evaluator::price_with` meets its contract. Assumes nothing.
use Rattle.evaluator.specs.Record.{price_with}
use Rattle.evaluator.proofs.price_with.Goals as goal

pub returns : goal.returns
unfolding price_with
returns c = rw c.route_cost.ensures
