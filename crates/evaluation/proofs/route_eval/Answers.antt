-- `evaluation::route_eval` meets its contract. Assumes nothing.
use mathlib.Core.Path.{refl, ap, ◌∙◌}
use Rattle.evaluation.specs.Verdict.{eval_of}
use Rattle.evaluation.specs.Feasible.{route_eval}
use Rattle.evaluation.proofs.ByRest.{by_rest}
use Rattle.evaluation.proofs.route_eval.Goals as goal

pub returns-in-None : goal.returns-in-None
unfolding route_eval
returns-in-None c = c.eval_by.ensures ∙ ap eval_of (by_rest _ _ _ _ _ _ c.in-None.is refl c.walk.ensures)
