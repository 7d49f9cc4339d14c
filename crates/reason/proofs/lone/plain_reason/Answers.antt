-- `reason::lone::plain_reason` meets its contract. Assumes nothing.
use Rattle.std.proofs.Common.{arith}
use Rattle.reason.specs.Reason.{plain_reason}
use Rattle.reason.proofs.Alone.{own_distance}
use Rattle.reason.proofs.Telling.{last_asked}
use Rattle.reason.proofs.lone.plain_reason.Goals as goal

pub returns-then-over_distance : goal.returns-then-over_distance
unfolding plain_reason
returns-then-over_distance c = λ index e. (rw (← c.over_capacity.ensures index e, c.if-over_capacity.false, ← c.over_distance.ensures index (own_distance _ _ _ e), c.if-over_distance.true), omega arith)

pub returns : goal.returns
unfolding plain_reason
returns c = λ index e. rw (← c.over_capacity.ensures index e, c.if-over_capacity.false, ← c.over_distance.ensures index (own_distance _ _ _ e), c.if-over_distance.false, ← c.over_plain_duration.ensures index e, c.then_some.ensures) (last_asked c.over_plain_duration.result)
