-- `multi_depot_offers::first_at` meets its contract. Assumes nothing.
use Rattle.std.proofs.Common.{◌≡◌, ◌∙◌, arith}
use Rattle.sheet.specs.Laws.Depots.{depots_few}
use Rattle.sheet.specs.Depots.{depots_of}
use Rattle.multi_depot_offers.specs.ByDepot.{next_depot}
use Rattle.multi_depot_offers.proofs.Asking.{next_upto}
use Rattle.multi_depot_offers.proofs.Firsts.{begins, goes_on, ends}
use Rattle.multi_depot_offers.proofs.first_at.Goals as goal

pub loop-row-init : goal.loop-row-init
loop-row-init c = begins _ _ c.requires

pub overflow_cast-home : goal.overflow_cast-home
overflow_cast-home c = let s = c.args.sheet.now in
    let d = c.depots-depots.ensures in
    omega (arith, rw d.value at c.unwrap_or.ensures, c.next_depot.ensures.value, next_upto s c.loop-row.row (depots_of s), depots_few s (omega (arith, c.requires)), d.accepted.sized.rows)

pub loop-row-preserved : goal.loop-row-preserved
loop-row-preserved c = let l = c.loop-row in
    let e : c.unwrap_or.result ≡ next_depot c.args.sheet.now l.row (depots_of c.args.sheet.now) = rw c.depots-depots.ensures.value at c.unwrap_or.ensures ∙ c.next_depot.ensures.value in
    rw e (goes_on _ _ _ l.invariant (omega (arith, c.requires)))

pub returns : goal.returns
returns c = ends _ _ _ c.loop-row.invariant (omega (arith, c.requires))
