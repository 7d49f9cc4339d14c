-- `solomon_import::writing::write_records` meets its contract (`Together.antt`). Assumes nothing.
use Prim.Native.Nat.{◌+◌, ◌*◌}
use mathlib.Core.Path.{◌≡◌, sym, ap, ◌∙◌, subst}
use mir.Syntax.{w32}
use mir.ValLaws.{to_z-of_z}
use Rattle.solomon_import.specs.Import.{vehicle_fields_of}
use native.Mathlib.Omega.{arith}
use Rattle.sheet_writer.specs.Numbered.{VehicleNumbered}
use Rattle.solomon_import.proofs.Made.{vehicle_numbered}
use Rattle.solomon_import.proofs.Together.{enough, few_rows, lines_ranged, rows_fit, vehicle_fits, records_put}
use Rattle.solomon_import.specs.Laws.Taken.{taken}
use Rattle.solomon_import.proofs.writing.write_records.Goals as goal

pub capacity-requires : goal.capacity-requires
capacity-requires c = (taken c.args.text.now c.requires.text_value.0).capacity

pub put_header-requires : goal.put_header-requires
put_header-requires c = (let l = enough c.args.text.now c.args.sheet.now c.args.rows 0 (taken c.args.text.now c.requires.text_value.0) c.requires.text_value.1 c.requires.rows_in_bounds in let f = few_rows c.args.text.now c.args.sheet.now c.args.rows 0 (taken c.args.text.now c.requires.text_value.0) c.requires.text_value.1 c.requires.rows_in_bounds in (record { header_size_in_bounds = omega arith; rows_bound = omega arith; vehicles_bound = omega arith }))

pub write_rows-requires : goal.write_rows-requires
write_rows-requires c = let f = c.first_row_line-first in
    record {
      from_in_bounds = f.ensures.upper_bound;
      t = lines_ranged c.args.text.now c.args.sheet.now c.args.rows f.result (taken c.args.text.now c.requires.text_value.0) c.requires.text_value.1 c.requires.rows_in_bounds f.ensures.result_value;
      from_in_bounds_2 = rows_fit c.args.text.now c.args.sheet.now c.args.rows f.result (taken c.args.text.now c.requires.text_value.0) c.requires.text_value.1 c.requires.rows_in_bounds f.ensures.result_value c.put_header.new.sheet c.put_header.ensures;
    }

pub vehicle_place-requires : goal.vehicle_place-requires
vehicle_place-requires c = (let f = few_rows c.args.text.now c.args.sheet.now c.args.rows 0 (taken c.args.text.now c.requires.text_value.0) c.requires.text_value.1 c.requires.rows_in_bounds in (omega arith, omega arith))

pub put_vehicle-requires : goal.put_vehicle-requires
put_vehicle-requires c = let f = c.first_row_line-first in
    let place : c.vehicle_place.result ≡ 16 + 48 * c.args.rows = omega (arith, c.vehicle_place.ensures) in
    record {
      vehicle_size_in_bounds = rw place (vehicle_fits c.args.text.now c.args.sheet.now c.args.rows f.result (taken c.args.text.now c.requires.text_value.0) c.requires.text_value.1 c.requires.rows_in_bounds f.ensures.result_value c.put_header.new.sheet c.put_header.ensures c.write_rows.new.sheet c.write_rows.ensures);
      vehicle_numbered = subst VehicleNumbered (sym (c.vehicle_fields-vehicle.ensures ∙ ap vehicle_fields_of (to_z-of_z w32 c.capacity.result (record { sfits = c.capacity.type_inv })))) (vehicle_numbered c.capacity.result);
    }

pub returns : goal.returns
returns c = let f = c.first_row_line-first in
    let place : c.vehicle_place.result ≡ 16 + 48 * c.args.rows = omega (arith, c.vehicle_place.ensures) in
    records_put c.args.text.now c.args.sheet.now c.args.rows f.result (taken c.args.text.now c.requires.text_value.0) c.requires.text_value.1 c.requires.rows_in_bounds f.ensures.result_value c.put_header.new.sheet c.put_header.ensures c.write_rows.new.sheet c.write_rows.ensures c.put_vehicle.new.sheet c.vehicle_fields-vehicle.result c.capacity.result
    c.capacity.ensures (c.vehicle_fields-vehicle.ensures ∙ ap vehicle_fields_of (to_z-of_z w32 c.capacity.result (record { sfits = c.capacity.type_inv }))) (rw place at c.put_vehicle.ensures)
