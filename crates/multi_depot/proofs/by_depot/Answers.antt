-- `multi_depot::by_depot` meets its contract. Assumes nothing.
use mathlib.Core.Path.{sym}
use native.Mathlib.Omega.{arith}
use Rattle.multi_depot_offers.specs.ByDepot.{by_depot}
use Rattle.multi_depot.proofs.Gathering.{planned_still, room_aside, gathered_held}
use Rattle.multi_depot.proofs.by_depot.Goals as goal

-- without a stop that has moved the tables hold what was planned at first
pub lay_aside-requires-clause-marks_in_bounds : goal.lay_aside-requires-clause-marks_in_bounds
lay_aside-requires-clause-marks_in_bounds c = let w = c.settle in
    room_aside w.new.at (planned_still (w.ensures.untouched c.if-not-settle.true) c.plan_depots-filled.ensures.planned) (omega arith)

pub returns-then-not-settle-clause-holds_outcome : goal.returns-then-not-settle-clause-holds_outcome
unfolding by_depot
returns-then-not-settle-clause-holds_outcome c = let w = c.settle in
    rw (sym w.ensures.at_after) (gathered_held w.new.at (planned_still (w.ensures.untouched c.if-not-settle.true) c.plan_depots-filled.ensures.planned) (omega arith) c.lay_aside.ensures)

pub lay_aside-requires-2-clause-marks_in_bounds : goal.lay_aside-requires-2-clause-marks_in_bounds
lay_aside-requires-2-clause-marks_in_bounds c = room_aside c.settle.new.at c.plan_depots-last.ensures.planned (omega arith)

pub returns-clause-holds_outcome : goal.returns-clause-holds_outcome
unfolding by_depot
returns-clause-holds_outcome c = let w = c.settle in
    rw (sym w.ensures.at_after) (gathered_held w.new.at c.plan_depots-last.ensures.planned (omega arith) c.lay_aside-2.ensures)
