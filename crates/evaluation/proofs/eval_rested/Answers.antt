-- `evaluation::eval_rested` meets its contract. Assumes nothing.
use mathlib.Core.Path.{sym, ◌∙◌}
use native.Mathlib.Omega.{arith}
use borrow.Author.Tests.{not-false, not-true}
use Rattle.evaluation.proofs.ByRest.{eval_passed, eval_unmarked, eval_marked}
use Rattle.evaluation.proofs.eval_rested.Goals as goal

pub returns-in-Some : goal.returns-in-Some
returns-in-Some c = eval_passed c.args.sheet.now c.args.depot c.args.limits c.args.route.now c.args.rest c.schedule-scheduled.result c.requires.rest_value c.schedule-scheduled.ensures c.in-Some.figures (sym c.eval_by.ensures ∙ c.in-Some.is)

pub returns-then-not-limits : goal.returns-then-not-limits
returns-then-not-limits c = eval_unmarked c.args.sheet.now c.args.depot c.args.limits c.args.route.now c.args.rest c.schedule-scheduled.result c.requires.rest_value c.schedule-scheduled.ensures (sym c.eval_by.ensures ∙ c.in_default.is) (not-true _ c.if-not-limits.true)

pub returns : goal.returns
returns c = c.eval_home.ensures ∙ eval_marked c.args.sheet.now c.args.depot c.args.limits c.args.route.now c.args.rest c.schedule-scheduled.result c.requires.rest_value c.schedule-scheduled.ensures _ c.walk.result (sym c.eval_by.ensures ∙ c.in_default.is) (not-false _ c.if-not-limits.false) (omega arith) c.walk.ensures
