-- `sheet_refusal::table::rows_in_range` meets its contract. Assumes nothing.
use Rattle.std.proofs.Common.{rules, ℕ, ◌∙◌}
use Rattle.std.proofs.lemmas.Iterator.{YieldsList-from_range}
use Rattle.std.proofs.lemmas.Iterator.Search.{all_from_yields_List}
use borrow.Author.Tests.{tests}
use Rattle.sheet.specs.Fields.{rows_of, row_at}
use Rattle.sheet.specs.Ranges.{row_in_range, rows_in_range}
use Rattle.sheet_refusal.proofs.Tables.{all_along}
use Rattle.sheet_refusal.proofs.table.rows_in_range.Goals as goal

pub returns : goal.returns
unfolding rows_in_range
returns c = let s = c.args.sheet.now in
    all_from_yields_List (λ (i : ℕ). row_in_range s (row_at i)) _ _ _ c.all.ensures.ran (YieldsList-from_range 0 (rows_of s) (rows_of s) (search rules) (search rules)) (λ x b q k. search (rules, tests))
    ∙ all_along (λ (i : ℕ). row_in_range s (row_at i)) (rows_of s)
