-- `insertion::trial::slide` meets its contract. Assumes nothing.
use mathlib.Core.Path.{◌∙◌}
use Rattle.insertion.proofs.Sliding.{brought, sent}
use Rattle.insertion.proofs.trial.slide.Goals as goal

pub returns-then-to-at : goal.returns-then-to-at
returns-then-to-at c = c.bring.ensures ∙ brought c.args.trial.now c.args.to c.args.at c.if-to-at.true c.requires.0

pub returns : goal.returns
returns c = sent c.args.trial.now c.args.to c.args.at _ c.if-to-at.false c.requires.1 c.send_last.ensures
