-- `sheet_writer::put_floats` meets its contract. Assumes nothing.
use Rattle.sheet_writer.proofs.Run.{Floats}
use Rattle.sheet_writer.proofs.put_floats.Given as goal

abbrev pub invariant-loop-i : goal.invariant-loop-i
invariant-loop-i l = Floats l.values l.fn.sheet l.at l.i l.sheet
