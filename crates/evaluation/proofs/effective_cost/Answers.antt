-- `evaluation::effective_cost` meets its contract. Assumes nothing.
use Rattle.evaluation.specs.Feasible.{effective_cost}
use Rattle.evaluation.proofs.effective_cost.Goals as goal

pub returns : goal.returns
unfolding effective_cost
returns c = rw (c.cost.ensures, c.route_eval.ensures)
