-- `planner_c::deal_rounds` meets its contract. Assumes nothing.
use Rattle.std.proofs.Common.{sym, ◌∙◌}
use Rattle.planner_c.proofs.deal_rounds.Goals as goal

pub returns-clause-deal_even : goal.returns-clause-deal_even
returns-clause-deal_even c = λ e. c.deal_rounds-answer.ensures.deal_even (sym c.number.ensures ∙ e)
