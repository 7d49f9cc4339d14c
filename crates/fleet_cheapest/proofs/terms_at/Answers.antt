-- `fleet_cheapest::terms_at` meets its contract. Assumes nothing.
use lib.Ieee.{of_bits}
use Rattle.fleet_cheapest.specs.Promises.{terms_at}
use Rattle.fleet_cheapest.proofs.terms_at.Goals as goal

pub returns-then-windows : goal.returns-then-windows
unfolding terms_at of_bits
returns-then-windows c = rw (c.if-windows.true, c.limits_at-limits.ensures, c.vehicle_at-own.ensures.value)

pub returns-else-windows : goal.returns-else-windows
unfolding terms_at of_bits
returns-else-windows c = rw (c.if-windows.false, c.is_unlimited-unlimited.ensures, c.limits_at-limits.ensures, c.vehicle_at-own.ensures.value)
