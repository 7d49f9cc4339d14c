-- `sheet::customer::marked_depots` meets its contract. Assumes nothing.
use Rattle.std.proofs.Common.{rules, ◌≡◌, true, false, ◌∙◌}
use Rattle.std.proofs.lemmas.Iterator.{first_from_Range}
use borrow.Author.Tests.{tests}
use Rattle.sheet.specs.Depots.{is_depot}
use Rattle.sheet.proofs.Leading.{first_unmarked}
use Rattle.sheet.proofs.customer.marked_depots.Goals as goal

pub returns : goal.returns
returns c = let s = c.args.sheet.now in
    c.unwrap_or.ensures ∙ first_unmarked s c.args.rows c.find.result (first_from_Range _ _ _ _ (λ k. is_depot s k ≡ false) (λ k. is_depot s k ≡ true) c.find.ensures.ran (λ x q k. search (rules, tests)) (λ x q k. search (rules, tests)))
