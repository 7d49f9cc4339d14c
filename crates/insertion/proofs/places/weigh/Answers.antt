-- `insertion::places::weigh` meets its contract. Assumes nothing.
use mathlib.Core.Path.{◌∙◌, ap}
use lib.Ieee.{Float}
use Rattle.evaluation_clock.specs.Sums.{◌⊖◌}
use Rattle.insertion.proofs.Judged.{not_allowed_lem, too_dear, cheap_enough}
use Rattle.insertion.proofs.places.weigh.Goals as goal

pub returns-in_default : goal.returns-in_default
returns-in_default b c = let a = c.args in not_allowed_lem a.sheet.now a.terms a.prices a.trial.now a.best a.j a.k c.eval-eval.result c.eval-eval.ensures c.in_default.is

pub returns-then-prices-cost : goal.returns-then-prices-cost
returns-then-prices-cost b c = let a = c.args in too_dear a.sheet.now a.terms a.prices a.trial.now a.best a.j a.k c.eval-eval.result c.eval-eval.ensures _ c.in-Some.is _ (ap (λ (x : Float). x ⊖ a.prices.round) c.priced_distance.ensures) c.if-prices-cost.true

pub returns : goal.returns
returns b c = let a = c.args in c.better.ensures ∙ cheap_enough a.sheet.now a.terms a.prices a.trial.now a.best a.j a.k c.eval-eval.result c.eval-eval.ensures _ c.in-Some.is _ (ap (λ (x : Float). x ⊖ a.prices.round) c.priced_distance.ensures) c.if-prices-cost.false
