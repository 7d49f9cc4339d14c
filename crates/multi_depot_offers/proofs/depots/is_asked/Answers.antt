-- `multi_depot_offers::depots::is_asked` meets its contract. Assumes nothing.
use Rattle.std.proofs.Common.{arith}
use Rattle.multi_depot_offers.proofs.Asking.{depot_row}
use Rattle.multi_depot_offers.proofs.depots.is_asked.Goals as goal

pub is_sooner-requires : goal.is_sooner-requires
is_sooner-requires c = let p = c.requires in
    (p.row, (depot_row _ _ p.row c.in-Some.after (omega (arith, c.depots.ensures.value, c.if-depots-after.false)), depot_row _ _ p.row c.args.d p.d_lt_depots))
