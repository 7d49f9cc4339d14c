-- `sheet_refusal::spare_is_zero` meets its contract. Assumes nothing.
use mathlib.Core.Path.{sym, ◌∙◌}
use borrow.Author.Tests.{ne_eqb}
use Rattle.sheet_refusal.proofs.Fields.{spare_high, spare_low}
use Rattle.sheet_refusal.proofs.spare_is_zero.Goals as goal

pub returns-then-u16_at-eq0 : goal.returns-then-u16_at-eq0
returns-then-u16_at-eq0 c = rw (c.u64_at.ensures) (spare_high c.args.sheet.now (sym c.u16_at.ensures ∙ c.if-u16_at-eq0.true))

pub returns-else-u16_at-eq0 : goal.returns-else-u16_at-eq0
returns-else-u16_at-eq0 c = ne_eqb _ _ c.if-u16_at-eq0.false ∙ sym (spare_low c.args.sheet.now (λ e. c.if-u16_at-eq0.false (c.u16_at.ensures ∙ e)))
