-- `multi_depot_settling::update_marks` meets its contract. Assumes nothing.
use native.Mathlib.Omega.{arith}
use Rattle.constructive.specs.Laws.TableContents.{is_empty}
use Rattle.multi_depot_settling.proofs.UpdatingMarks.{remarked, next_alone}
use Rattle.multi_depot_settling.proofs.update_marks.Goals as goal

pub plan_depot-requires : goal.plan_depot-requires
plan_depot-requires c = let p = c.requires in record { planning_tables = p.planning_tables; next = (rw (is_empty c.default-filled.ensures) (next_alone _ _ _ p.depot_bound.0), omega (arith, p.depot_bound.1, c.clear.auto.marks)) }

pub returns-clause-marks_updated : goal.returns-clause-marks_updated
returns-clause-marks_updated c = let p = c.requires in
    remarked c.args.depot p.planning_tables.rows (omega (arith, p.depot_bound.1, c.clear.auto.marks)) p.depot_bound.0 c.clear.ensures c.plan_depot.ensures.added.turned
