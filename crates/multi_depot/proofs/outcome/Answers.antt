-- `multi_depot::outcome` meets its contract. Assumes nothing.
use mathlib.Core.Path.{sym, ◌∙◌}
use Rattle.multi_depot.proofs.Gathering.{told, outcome_one, outcome_several}
use Rattle.multi_depot.proofs.outcome.Goals as goal

pub returns-then-depots-eq1-clause-outcome_stored : goal.returns-then-depots-eq1-clause-outcome_stored
returns-then-depots-eq1-clause-outcome_stored c = told _ _ _ _ _ _ c.requires.sheet (outcome_one _ (sym c.depots.ensures.value ∙ c.if-depots-eq1.true)) c.one_depot.ensures.holds_outcome

pub returns-clause-outcome_stored : goal.returns-clause-outcome_stored
returns-clause-outcome_stored c = told _ _ _ _ _ _ c.requires.sheet (outcome_several _ (λ q. c.if-depots-eq1.false (c.depots.ensures.value ∙ q))) c.by_depot.ensures.holds_outcome
