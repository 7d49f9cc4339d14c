-- `multi_depot_planning::plan_depots` meets its contract. Assumes nothing.
use native.Mathlib.Omega.{arith}
use Rattle.constructive.specs.Laws.TableContents.{is_empty}
use Rattle.multi_depot_planning.proofs.Plans.{next_there, planned_more, planned_none}
use Rattle.std.proofs.Common.{rules}
use Rattle.multi_depot_planning.proofs.plan_depots.Goals as goal

pub loop-depot-init : goal.loop-depot-init
loop-depot-init c = let a = c.args in
    record { as_long = search rules; lent = search rules; planned = rw (c.fill.ensures.after (λ y e. e), is_empty c.default-filled.ensures) (planned_none a.sheet.now a.at.now a.marks.now a.tables.now.stops.now a.tables.now.ends.now a.tables.now.vehicles.now c.requires.sheet_in_bounds) }

pub plan_depot-filled-requires : goal.plan_depot-filled-requires
plan_depot-filled-requires c = let i = c.loop-depot.invariant.planned in
    record { planning_tables = search rules; next = (next_there _ c.loop-depot.depot (omega arith) i, i.turned.long) }

pub loop-depot-preserved : goal.loop-depot-preserved
loop-depot-preserved c = let i = c.loop-depot.invariant in
    let w = c.plan_depot-filled.ensures in
    record { as_long = search rules; lent = search rules; planned = planned_more _ _ i.planned w.added }
