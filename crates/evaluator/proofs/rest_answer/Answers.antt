-- `evaluator::rest_answer` meets its contract. Assumes nothing.
use mathlib.Core.Path.{refl, sym, ◌∙◌}
use borrow.Author.Tests.{not-true}
use Rattle.evaluator.proofs.Resting.{rest_unmarked, rest_passed, rest_kept}
use Rattle.evaluator.proofs.rest_answer.Goals as goal

pub returns-then-not-limits : goal.returns-then-not-limits
returns-then-not-limits c = let a = c.args in rest_unmarked a.sheet.now a.depot a.limits a.route.now a.rest c.schedule.result c.requires.rest_value c.schedule.ensures _ (not-true _ c.if-not-limits.true) (c.answer.ensures _)

pub returns-in-Some : goal.returns-in-Some
returns-in-Some c = let a = c.args in rest_passed a.sheet.now a.depot a.limits a.route.now a.rest _ c.requires.rest_value refl _ (sym c.eval_rested.ensures ∙ c.in-Some.is)

pub returns-in-None : goal.returns-in-None
returns-in-None c = let a = c.args in rest_kept a.sheet.now a.depot a.limits a.route.now a.rest c.schedule-in-None.result c.requires.rest_value c.schedule-in-None.ensures _ (sym c.eval_rested.ensures ∙ c.in-None.is) (c.answer-in-None.ensures _)
