-- `reason::another_makes` meets its contract. Assumes nothing.
use Rattle.std.proofs.Common.{rules, ◌∙◌, ◌+◌, ◌-◌}
use Rattle.std.proofs.lemmas.Iterator.{YieldsList-from_range}
use Rattle.std.proofs.lemmas.Iterator.Search.{any_from_yields_List}
use borrow.Author.Tests.{tests}
use Rattle.sheet.specs.Fields.{vehicles_of}
use Rattle.reason.proofs.Fleets.{makes, any_makes}
use Rattle.reason.proofs.another_makes.Goals as goal

pub returns : goal.returns
returns c = let a = c.args in
    any_from_yields_List (makes a.sheet.now a.depot a.row) _ _ _ c.any.ensures.ran (YieldsList-from_range (a.first + 1) (vehicles_of a.sheet.now) (vehicles_of a.sheet.now - (a.first + 1)) (search rules) (search rules)) (λ x b q k. search (rules, tests))
    ∙ any_makes a.sheet.now a.depot a.row (vehicles_of a.sheet.now - (a.first + 1)) (a.first + 1)
