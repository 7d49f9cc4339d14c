-- `solomon_import::writing::write_rows` meets its contract (`RowsPut.antt`). Assumes nothing.
use Prim.Native.Nat.{◌-◌}
use lib.ListN.{length}
use Rattle.solomon_import.proofs.RowsPut.{RowsPut}
use Rattle.solomon_import.proofs.writing.write_rows.Given as goal

abbrev pub invariant-loop-at : goal.invariant-loop-at
invariant-loop-at l = RowsPut l.text l.from l.initial.sheet l.sheet l.at l.place l.marks

abbrev pub decreases-loop-at : goal.decreases-loop-at
decreases-loop-at l = length l.text - l.at
