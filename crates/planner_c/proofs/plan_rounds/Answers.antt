-- `planner_c::plan_rounds` meets its contract. Assumes nothing.
use mathlib.Core.Path.{sym, ◌∙◌}
use Rattle.planner_c.proofs.plan_rounds.Goals as goal

pub returns-clause-closed : goal.returns-clause-closed
returns-clause-closed c = λ e. c.plan_rounds-answer.ensures.closed (sym c.number.ensures ∙ e)
