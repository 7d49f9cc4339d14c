-- `fleet_cheapest::may_win` meets its contract. Assumes nothing.
use Rattle.std.proofs.Common.{rules, sym, ℕ, ◌+◌, ◌∙◌, length}
use Rattle.std.proofs.lemmas.Iterator.{YieldsList-from_range}
use Rattle.std.proofs.lemmas.Iterator.Search.{any_from_yields_List}
use borrow.Author.Tests.{tests}
use Rattle.insertion.specs.Place.{detour, wins}
use Rattle.fleet_cheapest.proofs.Unwon.{none_passes}
use Rattle.fleet_cheapest.proofs.may_win.Goals as goal

pub returns-else-windows : goal.returns-else-windows
returns-else-windows c e = let a = c.args in
    let n = length a.route.now + 1 in
    let lost = any_from_yields_List (λ (k : ℕ). wins (detour a.sheet.now 0 a.route.now a.row k) a.best) _ _ _ c.any.ensures.ran (YieldsList-from_range 0 n n (search rules) (search rules)) (λ x b q k. search (rules, tests)) in
    (c.if-windows.false, none_passes _ n (sym lost ∙ e))
