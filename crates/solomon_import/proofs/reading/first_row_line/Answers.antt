-- `solomon_import::reading::first_row_line` meets its contract (`Refusing.antt`). Assumes nothing.
use Rattle.solomon_import.proofs.Refusing.{no_rows, first_row}
use native.Mathlib.Omega.{arith}
use Rattle.solomon_import.proofs.reading.first_row_line.Goals as goal

pub returns-then-at-text-clause-result_value : goal.returns-then-at-text-clause-result_value
returns-then-at-text-clause-result_value c = no_rows c.args.text.now c.first_number_line-at.result c.first_number_line-at.ensures c.if-at-text.true

pub returns-clause-result_value : goal.returns-clause-result_value
returns-clause-result_value c = let f = c.first_number_line-at in
    first_row c.args.text.now f.result f.ensures (let h = f.ensures.0 in omega arith) c.line_after.result c.line_after.ensures
