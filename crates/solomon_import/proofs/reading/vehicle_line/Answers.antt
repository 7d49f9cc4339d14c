-- `solomon_import::reading::vehicle_line` meets its contract (`Refusing.antt`). Assumes nothing.
use mathlib.Core.Path.{◌∙◌}
use Rattle.solomon_import.proofs.Refusing.{vehicle_line}
use Rattle.solomon_import.proofs.reading.vehicle_line.Goals as goal

pub returns : goal.returns
returns c = c.line_at.ensures ∙ vehicle_line c.args.text.now c.first_number_line.result c.first_number_line.ensures
