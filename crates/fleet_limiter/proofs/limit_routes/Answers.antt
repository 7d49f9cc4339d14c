-- `fleet_limiter::limit_routes` meets its contract. Assumes nothing.
use Rattle.std.proofs.Common.{rules}
use Rattle.fleet_limiter.proofs.Ordered.{aside, limited_outcome, limited_tables}
use Rattle.fleet_limiter.proofs.limit_routes.Goals as goal

pub order_aside-requires : goal.order_aside-requires
order_aside-requires c = aside c.requires _ c.limit-n.ensures.held c.start_of-from.ensures

pub returns : goal.returns
returns c = let e = c.start_of-from.ensures in let q = c.order_aside.ensures in record {
  total_after = limited_outcome c.requires _ c.limit-n.ensures.held e q;
  tables = limited_tables c.requires _ c.limit-n.ensures.held e q;
  as_long = search rules;
  lent = search rules;
}
