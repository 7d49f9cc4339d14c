-- `solomon_text::lines::next_digit_line` meets its contract. Assumes nothing.
use mathlib.Core.Path.{sym, ap, ◌∙◌, subst}
use native.Mathlib.Omega.{arith}
use lib.Dec.{T}
use lib.ListN.{drop}
use Rattle.solomon_text.specs.Lines.{has_digit}
use Rattle.solomon_text.specs.Laws.Lines.{digit_line_later, has_digit_any}
use Rattle.solomon_text.proofs.lines.next_digit_line.Goals as goal

pub returns-then-has_digit : goal.returns-then-has_digit
returns-then-has_digit c = let l = c.loop-start in (l.invariant.0, l.invariant.1, l.invariant.2, λ h. subst T (sym (ap has_digit (sym c.line_end-end.ensures.2) ∙ sym (c.has_digit.ensures ∙ has_digit_any _) ∙ c.if-has_digit.true)) tt)

pub loop-start-preserved : goal.loop-start-preserved
loop-start-preserved c = let l = c.loop-start in (omega arith, omega arith, l.invariant.2 ∙ digit_line_later (drop l.start c.args.text.now) (ap has_digit (sym c.line_end-end.ensures.2) ∙ sym (c.has_digit.ensures ∙ has_digit_any _) ∙ c.if-has_digit.false) ∙ c.next_line-start.ensures.2)
