-- `reason::lone::soonest` meets its contract. Assumes nothing.
use Rattle.std.proofs.Common.{ap, ◌∙◌, refl}
use Rattle.evaluation.specs.Verdict.{is_feasible}
use Rattle.evaluation.specs.Feasible.{route_feasible}
use Rattle.evaluation.proofs.ByRest.{by_rest}
use Rattle.evaluation.proofs.Soonest.{soonest_feasible}
use Rattle.reason.proofs.lone.soonest.Goals as goal

pub returns-in-None : goal.returns-in-None
unfolding route_feasible
returns-in-None c = λ asked r h. ap is_feasible (by_rest _ _ asked _ _ _ (r ∙ c.in-None.is) refl c.walk.ensures)

pub returns-in-Some : goal.returns-in-Some
returns-in-Some c = λ asked r h. soonest_feasible _ _ asked _ _ (r ∙ c.in-Some.is) _ (rw h c.schedule.ensures)
