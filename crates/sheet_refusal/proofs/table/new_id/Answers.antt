-- `sheet_refusal::table::new_id` meets its contract. Assumes nothing.
use Rattle.std.proofs.Common.{rules, ℕ, ◌∙◌, not}
use Rattle.std.proofs.lemmas.Iterator.{YieldsList-from_range}
use Rattle.std.proofs.lemmas.Iterator.Search.{all_from_yields_List}
use borrow.Author.Tests.{tests}
use Rattle.sheet.specs.Ranges.{new_id, same_id}
use Rattle.sheet_refusal.proofs.Tables.{all_along}
use Rattle.sheet_refusal.proofs.table.new_id.Goals as goal

pub returns : goal.returns
unfolding new_id
returns c = let a = c.args in
    all_from_yields_List (λ (w : ℕ). not (same_id a.sheet.now a.v w)) _ _ _ c.all.ensures.ran (YieldsList-from_range 0 a.v a.v (search rules) (search rules)) (λ x b q k. search (rules, tests))
    ∙ all_along (λ (w : ℕ). not (same_id a.sheet.now a.v w)) a.v
