-- `fleet_cheapest::cheapest_insertion` meets its contract. Assumes nothing.
use Prim.Native.Nat.{◌+◌}
use lib.ListN.{length}
use lib.Seq.{length_front}
use Rattle.fleet_cheapest.proofs.Rounds.{goes_on, done}
use Rattle.fleet_cheapest.proofs.cheapest_insertion.Goals as goal

pub loop-i-preserved : goal.loop-i-preserved
loop-i-preserved c = rw c.rebuilt-best.ensures (goes_on c.loop-i.invariant _ _ c.loop-i-test.true (length_front c.loop-i.trial c.try_round-next.new.trial (length c.route-route.result.now + 1) c.try_round-next.auto.trial) (rw (c.vehicle_of.ensures, c.route-route.ensures) at c.try_round-next.ensures))

pub returns : goal.returns
returns c = done c.loop-i.invariant c.loop-i-test.false
