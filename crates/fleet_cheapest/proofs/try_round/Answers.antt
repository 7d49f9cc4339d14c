-- `fleet_cheapest::try_round` meets its contract. Assumes nothing.
use Rattle.fleet_cheapest.proofs.Unwon.{round_unwon}
use Rattle.fleet_cheapest.proofs.try_round.Goals as goal

pub returns-then-not-may_win : goal.returns-then-not-may_win
returns-then-not-may_win c = let u = c.may_win.ensures (c.if-not-may_win.true) in round_unwon _ _ _ _ _ u.0 _ _ u.1
