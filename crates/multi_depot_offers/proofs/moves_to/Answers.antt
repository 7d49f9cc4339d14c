-- `multi_depot_offers::moves_to` meets its contract. Assumes nothing.
use Rattle.multi_depot_offers.specs.ByDepot.{moves_to}
use Rattle.multi_depot_offers.proofs.Asking.{turned_down}
use Rattle.multi_depot_offers.proofs.moves_to.Goals as goal

pub returns-then-not-turned-clause-value : goal.returns-then-not-turned-clause-value
unfolding moves_to
returns-then-not-turned-clause-value c = rw c.if-not-turned.true

pub returns : goal.returns
returns c = let a = c.args in
    let d = c.depots.ensures in
    let e = c.next_depot.ensures in
    let r = turned_down a.sheet.now d.accepted a.row c.requires a.depot c.next_depot.result (rw (c.then_some.ensures, d.value) at e.value) e.bound in
    record { value = rw c.if-not-turned.false r.0; another = r.1 }
