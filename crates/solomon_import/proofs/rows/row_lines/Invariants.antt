-- `solomon_import::rows::row_lines` meets its contract (`RowLines.antt`). Assumes nothing.
use Prim.Native.Nat.{◌-◌}
use lib.ListN.{length}
use Rattle.solomon_import.proofs.RowLines.{RowsRead}
use Rattle.solomon_import.proofs.rows.row_lines.Given as goal

abbrev pub invariant-loop-at : goal.invariant-loop-at
invariant-loop-at l = RowsRead l.text l.from l.at l.count l.in_range

abbrev pub decreases-loop-at : goal.decreases-loop-at
decreases-loop-at l = length l.text - l.at
