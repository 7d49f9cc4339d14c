-- `multi_depot_settling::update_changed` meets its contract. Assumes nothing.
use mathlib.Core.Path.{sym, ap, ◌∙◌}
use native.Mathlib.Omega.{arith}
use lib.ListN.{length}
use Rattle.multi_depot_offers.specs.Laws.Settled.{length_offered}
use Rattle.multi_depot_settling.proofs.UpdatingMarks.{passes, ends}
use Rattle.multi_depot_settling.proofs.update_changed.Goals as goal

pub is_changed-requires : goal.is_changed-requires
is_changed-requires c = sym (ap length c.requires.at_value ∙ length_offered c.args.sheet.now c.args.before.now)

pub loop-depot-preserved-then-not-is_changed : goal.loop-depot-preserved-then-not-is_changed
loop-depot-preserved-then-not-is_changed c = let i = c.loop-depot.invariant in
    record { as_long = i.as_long; lent = i.lent; updating = passes i.updating c.requires.planning_tables.rows (omega arith) (c.is_changed.ensures c.if-not-is_changed.true) }

pub returns-clause-marks_after : goal.returns-clause-marks_after
returns-clause-marks_after c = let p = c.requires in
    ends c.loop-depot.invariant.updating (omega arith) p.at_value (omega (arith, p.marks.long))
