-- `evaluation::route_feasible` meets its contract. Assumes nothing.
use mathlib.Core.Path.{refl, ◌∙◌, ap}
use Rattle.evaluation.specs.Verdict.{is_feasible}
use Rattle.evaluation.specs.Feasible.{route_feasible}
use Rattle.evaluation.proofs.ByRest.{by_rest}
use Rattle.evaluation.proofs.Soonest.{soonest_feasible}
use Rattle.evaluation.proofs.route_feasible.Goals as goal

pub returns-in-None : goal.returns-in-None
unfolding route_feasible
returns-in-None c = c.kept_by.ensures ∙ ap is_feasible (by_rest _ _ _ _ _ _ c.in-None.is refl c.walk.ensures)

pub returns-in-Some : goal.returns-in-Some
returns-in-Some c = c.kept_by-in-Some.ensures ∙ soonest_feasible _ _ _ _ _ c.in-Some.is _ c.schedule.ensures
