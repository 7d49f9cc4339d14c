-- `sheet_refusal::refusal` meets its contract. Assumes nothing.
use mathlib.Core.Path.{◌∙◌, sym}
use Rattle.std.proofs.lemmas.Result.{err_from_is_err_and}
use Rattle.sheet.specs.Laws.Told.{number_positive}
use Rattle.sheet.specs.Laws.Form.{form_told, form_past}
use Rattle.sheet_refusal.proofs.refusal.Goals as goal

pub returns-in_err-form : goal.returns-in_err-form
returns-in_err-form c = let p = err_from_is_err_and c.from_residual.result c.from_residual.ensures.1 in rw (p.1, p.2) (form_told _ _ (number_positive _) c.in_err-form.ensures.form)

pub returns : goal.returns
returns c = c.contents.ensures ∙ form_past _ _ (sym c.in_ok-form.ensures.form)
