-- `sheet_writer::put_floats` meets its contract: one f64 after another. Assumes nothing.
use Rattle.sheet_writer.proofs.Run.{floats_begin, floats_go_on}
use Rattle.sheet_writer.proofs.put_floats.Goals as goal

pub loop-i-init : goal.loop-i-init
loop-i-init c = let a = c.args in floats_begin a.values.now a.sheet.now a.at

pub loop-i-preserved : goal.loop-i-preserved
loop-i-preserved c = let a = c.args in
    floats_go_on a.values.now a.sheet.now a.at c.loop-i.i c.loop-i.invariant c.put_f64.ensures c.loop-i-test.true c.requires.at_in_bounds
