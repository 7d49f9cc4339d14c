-- `solomon_import::writing::write_sheet` meets its contract (`Together.antt`). Assumes nothing.
use native.Mathlib.Omega.{arith}
use Rattle.solomon_import.proofs.Together.{few_rows, distances_room, sheet_written}
use Rattle.solomon_import.specs.Laws.Taken.{taken}
use Rattle.solomon_import.proofs.writing.write_sheet.Goals as goal

pub vehicle_place-tables-requires : goal.vehicle_place-tables-requires
vehicle_place-tables-requires c = (let f = few_rows c.args.text.now c.args.sheet.now c.args.rows 0 (taken c.args.text.now c.requires.text_value.0) c.requires.text_value.1 c.requires.rows_in_bounds in (omega arith, omega arith))

pub write_distances-requires : goal.write_distances-requires
write_distances-requires c = rw c.vehicle_place-tables.ensures (distances_room c.args.text.now c.args.sheet.now c.args.rows 0 (taken c.args.text.now c.requires.text_value.0) c.requires.text_value.1 c.requires.rows_in_bounds c.write_records.new.sheet c.write_records.ensures)

pub returns : goal.returns
returns c = sheet_written c.args.text.now c.args.sheet.now c.args.rows 0 (taken c.args.text.now c.requires.text_value.0) c.requires.text_value.1 c.requires.rows_in_bounds c.write_records.new.sheet c.write_records.ensures c.write_distances.new.sheet (rw c.vehicle_place-tables.ensures at c.write_distances.ensures)
