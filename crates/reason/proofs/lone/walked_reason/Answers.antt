-- `reason::lone::walked_reason` meets its contract. Assumes nothing.
use Rattle.std.proofs.Common.{arith}
use Rattle.reason.specs.Reason.{walked_reason}
use Rattle.reason.proofs.Alone.{none_unplaced, some_placed, some_lasts}
use Rattle.reason.proofs.Telling.{last_asked}
use Rattle.reason.proofs.lone.walked_reason.Goals as goal

pub returns-in_default : goal.returns-in_default
unfolding walked_reason
returns-in_default c =
    let n = none_unplaced _ _ _ _ (rw (c.limits_at-limits.ensures, c.in_default.is) at c.soonest.ensures) in
    (rw (← c.window_missed.ensures, c.if-window_missed.false, n), omega arith)

pub returns-then-over_distance : goal.returns-then-over_distance
unfolding walked_reason
returns-then-over_distance c = let l = c.limits_at-limits.ensures in
    let p = some_placed _ _ _ _ _ (rw (l, c.in-Some.is) at c.soonest.ensures) in
    (rw (← c.window_missed.ensures, c.if-window_missed.false, p, ← c.over_distance.ensures c.args.index (rw l), c.if-over_distance.true), omega arith)

pub returns : goal.returns
unfolding walked_reason
returns c = let l = c.limits_at-limits.ensures in
    let f = rw (l, c.in-Some.is) at c.soonest.ensures in
    let p = some_placed _ _ _ _ _ f in
    let t = some_lasts _ _ _ _ _ f in
    rw (← c.window_missed.ensures, c.if-window_missed.false, p, ← c.over_distance.ensures c.args.index (rw l), c.if-over_distance.false, t, ← rw l at c.is_over.ensures, c.then_some.ensures) (last_asked c.is_over.result)
