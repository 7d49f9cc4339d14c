-- `evaluation::checks::any_windowed` meets its contract. Assumes nothing.
use Rattle.std.proofs.Common.{rules, arith, ◌≡◌, ℕ, ◌∙◌}
use Rattle.std.proofs.lemmas.Grind.{get_or_default_zero}
use Rattle.std.proofs.lemmas.Iterator.{YieldsList-from_slice}
use Rattle.std.proofs.lemmas.Iterator.Adapters.{serves_from_places}
use Rattle.std.proofs.lemmas.Iterator.Search.{any_from_yields_List}
use borrow.Author.Tests.{tests}
use Rattle.evaluation.specs.Checks.{row_windowed}
use Rattle.evaluation.proofs.Windowed.{some_over}
use Rattle.evaluation.proofs.checks.any_windowed.Goals as goal

pub any-requires-clause-callable : goal.any-requires-clause-callable
any-requires-clause-callable c = let p = c.requires in
    serves_from_places (YieldsList-from_slice c.args.members.now (search rules)) (λ x q r. search rules) (λ x k h e l r n t f m. omega (arith, p.row k h, e ∙ get_or_default_zero _ k _ h))

pub returns-else-row_windowed : goal.returns-else-row_windowed
returns-else-row_windowed c = let a = c.args in
    let windowed : c.row_windowed.result ≡ row_windowed a.soft a.sheet.now a.depot = c.row_windowed.ensures in
    let some = any_from_yields_List (λ (row : ℕ). row_windowed a.soft a.sheet.now row) _ _ _ c.any.ensures.ran (YieldsList-from_slice a.members.now (search rules)) (λ x b q k. search (rules, tests)) ∙ some_over a.soft a.sheet.now a.members.now in
    rw (← windowed, c.if-row_windowed.false) some
