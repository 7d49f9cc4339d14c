-- `evaluator::route_cost` meets its contract. Assumes nothing.
use mathlib.Core.Path.{refl}
use Rattle.evaluator.specs.Record.{route_cost}
use Rattle.evaluator.proofs.route_cost.Goals as goal

pub returns : goal.returns
unfolding route_cost
returns c = refl
