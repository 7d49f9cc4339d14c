-- The examples of document 01's table "Turned back", computed from the definitions: one theorem over a table.
use Rattle.std.specs.Prelude.{refl}
use Rattle.std.specs.Float.Ieee.{round, of_bits, le}
use Rattle.wire.specs.Bytes.{le as number, bytes, signed, f64_at}
use Rattle.numbers.specs.Range.{in_range}
use Rattle.numbers.specs.All.{all}
use Rattle.sheet.specs.Fields.{rows_of, vehicles_of, method_of, times_of, spare_of, row_marks, id_field, depot_field, vehicle_marks, marked}
use Rattle.sheet.specs.Depots.{leading, depots_of}
use Rattle.sheet.specs.Ranges.{coordinate, demand, capacity, marks, vehicle_marking, amount, zero_bits, optional, interval, cost_per_distance, serving_in_range, row_in_range, maxima_in_range, rest_in_range, vehicle_in_range, same_id, new_id, rows_in_range, entries_in_range, vehicles_in_range}
use Rattle.sheet.specs.Refusal.{header_right, counts_right, method_right, lengths_right, needs_vehicle, fleet_right, contents, refusal_of}
use Rattle.planner_cases.specs.Refusals.{RefusalRight, refusal_cases}

pub refusals_right : RefusalRight refusal_cases
unfolding refusal_of header_right counts_right method_right lengths_right needs_vehicle fleet_right contents rows_of vehicles_of method_of times_of spare_of row_marks id_field depot_field vehicle_marks marked leading depots_of coordinate demand capacity marks vehicle_marking amount zero_bits optional interval cost_per_distance serving_in_range row_in_range maxima_in_range rest_in_range vehicle_in_range same_id new_id rows_in_range entries_in_range vehicles_in_range in_range all number bytes signed f64_at of_bits le round
refusals_right = (refl, (refl, (refl, (refl, (refl, (refl, (refl, (refl, (refl, (refl, (refl, (refl, (refl, (refl, (refl, (refl, tt))))))))))))))))
