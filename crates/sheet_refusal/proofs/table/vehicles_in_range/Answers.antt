-- `sheet_refusal::table::vehicles_in_range` meets its contract. Assumes nothing.
use Rattle.std.proofs.Common.{rules, ℕ, ◌∙◌, ◌&&◌}
use Rattle.std.proofs.lemmas.Iterator.{YieldsList-from_range}
use Rattle.std.proofs.lemmas.Iterator.Search.{all_from_yields_List}
use borrow.Author.Tests.{tests}
use Rattle.sheet.specs.Fields.{vehicles_of, vehicle_at}
use Rattle.sheet.specs.Ranges.{vehicle_in_range, new_id, vehicles_in_range}
use Rattle.sheet_refusal.proofs.Tables.{all_along}
use Rattle.sheet_refusal.proofs.table.vehicles_in_range.Goals as goal

pub returns : goal.returns
unfolding vehicles_in_range
returns c = let s = c.args.sheet.now in
    all_from_yields_List (λ (v : ℕ). vehicle_in_range s (vehicle_at s v) && new_id s v) _ _ _ c.all.ensures.ran (YieldsList-from_range 0 (vehicles_of s) (vehicles_of s) (search rules) (search rules)) (λ x b q k. search (rules, tests))
    ∙ all_along (λ (v : ℕ). vehicle_in_range s (vehicle_at s v) && new_id s v) (vehicles_of s)
