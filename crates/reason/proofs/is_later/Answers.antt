-- `reason::is_later` meets its contract. Assumes nothing.
use Rattle.multi_depot_offers.proofs.Asking.{depot_row}
use Rattle.reason.proofs.is_later.Goals as goal

pub is_sooner-requires : goal.is_sooner-requires
is_sooner-requires c = let p = c.requires in
    (p.row, (depot_row _ _ p.row c.in-Some.last (p.last_bound c.in-Some.last c.in-Some.is), depot_row _ _ p.row c.args.d p.d_lt_depots))
