-- `plan_reasons::reasons_right` meets its contract. Assumes nothing.
use Rattle.std.proofs.Common.{rules, arith, ℕ, ◌∙◌, leb}
use Rattle.std.proofs.lemmas.Grind.{get_or_default_zero}
use Rattle.std.proofs.lemmas.Iterator.{YieldsList-from_slice}
use Rattle.std.proofs.lemmas.Iterator.Adapters.{serves_from_places}
use Rattle.std.proofs.lemmas.Iterator.Search.{all_from_yields_List}
use borrow.Author.Tests.{tests}
use Rattle.sheet.specs.Fields.{rows_of}
use Rattle.plan_reasons.specs.Reasons.{reason_at}
use Rattle.plan_reasons.proofs.Judging.{right_over}
use Rattle.plan_reasons.proofs.reasons_right.Goals as goal

pub all-requires-clause-callable : goal.all-requires-clause-callable
all-requires-clause-callable c = let p = c.requires in
    serves_from_places (YieldsList-from_slice c.args.aside.now (search rules)) (λ x q r. search rules) (λ x k h e l r n t f m. omega (arith, p.chained.row k h, e ∙ get_or_default_zero _ k _ h))

pub returns : goal.returns
returns c = let s = c.args.sheet.now in
    all_from_yields_List (λ (row : ℕ). leb (reason_at c.args.plan.now (rows_of s) row) 8) _ _ _ c.all.ensures.ran (YieldsList-from_slice c.args.aside.now (search rules)) (λ x b q k. search (rules, tests))
    ∙ right_over s c.args.plan.now c.args.aside.now
