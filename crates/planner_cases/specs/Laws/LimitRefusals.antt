-- The limiter's examples of document 01's table "Turned back", computed from the definitions: one theorem over a table.
use Rattle.std.specs.Prelude.{refl}
use Rattle.std.specs.Float.Ieee.{round, of_bits, le}
use Rattle.lists.specs.Count.{count}
use Rattle.wire.specs.Bytes.{le as number, bytes, signed, f64_at}
use Rattle.numbers.specs.Range.{in_range}
use Rattle.numbers.specs.All.{all}
use Rattle.sheet.specs.Fields.{rows_of, vehicles_of, method_of, times_of, spare_of, row_marks, id_field, depot_field, vehicle_marks, marked}
use Rattle.sheet.specs.Depots.{leading, depots_of}
use Rattle.sheet.specs.Ranges.{coordinate, demand, capacity, marks, vehicle_marking, amount, zero_bits, optional, interval, cost_per_distance, serving_in_range, row_in_range, maxima_in_range, rest_in_range, vehicle_in_range, same_id, new_id, rows_in_range, entries_in_range, vehicles_in_range}
use Rattle.sheet.specs.Refusal.{header_right, counts_right, method_right, lengths_right, needs_vehicle, fleet_right, contents}
use Rattle.sheet.specs.Fleet.{index_from}
use Rattle.constructive.specs.Right.{ids_known, links_right, each_once, outcome_right}
use Rattle.constructive.specs.Outcome.{chains}
use Rattle.plan.specs.Read.{rounds_at, aside_at, id_at, first_stop_at, next_at, chain_from, rounds_from, read_plan, plan_right}
use Rattle.plan_reasons.specs.Reasons.{reason_at, reasons_right}
use Rattle.plan_door.specs.Door.{unread_refusal, plan_taken, door_refusal}
use Rattle.planner_limiting.specs.Limiting.{limit_refusal}
use Rattle.planner_cases.specs.LimitRefusals.{LimitRight, limit_cases}

pub limits_right : LimitRight limit_cases
unfolding limit_refusal door_refusal unread_refusal header_right counts_right method_right lengths_right needs_vehicle fleet_right contents rows_of vehicles_of method_of times_of spare_of row_marks id_field depot_field vehicle_marks marked leading depots_of coordinate demand capacity marks vehicle_marking amount zero_bits optional interval cost_per_distance serving_in_range row_in_range maxima_in_range rest_in_range vehicle_in_range same_id new_id rows_in_range entries_in_range vehicles_in_range in_range all number bytes signed f64_at of_bits le round rounds_at aside_at id_at first_stop_at next_at chain_from index_from rounds_from read_plan ids_known chains links_right count each_once outcome_right plan_right plan_taken reasons_right reason_at
limits_right = (refl, (refl, (refl, (refl, (refl, (refl, (refl, (refl, (refl, (refl, (refl, (refl, (refl, (refl, (refl, (refl, (refl, (refl, tt))))))))))))))))))
