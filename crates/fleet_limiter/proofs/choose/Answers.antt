-- `fleet_limiter::choose` meets its contract. Assumes nothing.
use Rattle.fleet_limiter.proofs.Choosing.{picked}
use Rattle.fleet_limiter.proofs.choose.Goals as goal

pub returns : goal.returns
returns c = picked c.requires.tables c.start_of-routed.ensures _ c.cheapest.ensures
