-- `evaluation::home::finish` meets its contract. Assumes nothing.
use mathlib.Core.Path.{◌∙◌}
use Rattle.evaluation.proofs.Soonest.{done_sooner, refused_sooner}
use Rattle.evaluation.proofs.home.finish.Goals as goal

pub returns : goal.returns
returns c = c.sooner.ensures ∙ done_sooner _ _ _ _ _ _ _ _ _ c.in-Some.is c.travel_time-back.ensures c.home-plain.ensures

pub returns-in_default : goal.returns-in_default
returns-in_default c = refused_sooner _ _ _ _ _ _ c.in_default.is
