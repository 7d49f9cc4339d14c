-- Examples of request Five, computed from the definitions: one theorem over a table.
use Rattle.std.specs.Prelude.{refl}
use Rattle.std.specs.Float.Ieee.{add, sub, of_bits, lt, le, round}
use Rattle.lists.specs.Count.{count}
use Rattle.lists.specs.Every.{Every}
use Rattle.wire.specs.Bytes.{le as number, bytes, signed, f64_at}
use Rattle.numbers.specs.Range.{in_range}
use Rattle.numbers.specs.All.{all}
use Rattle.sheet.specs.Fields.{rows_of, vehicles_of, method_of, times_of, spare_of, row_marks, id_field, depot_field, vehicle_marks, marked}
use Rattle.sheet.specs.Depots.{leading, depots_of}
use Rattle.sheet.specs.Ranges.{coordinate, demand, capacity, marks, vehicle_marking, amount, zero_bits, optional, interval, cost_per_distance, serving_in_range, row_in_range, maxima_in_range, rest_in_range, vehicle_in_range, same_id, new_id, rows_in_range, entries_in_range, vehicles_in_range}
use Rattle.sheet.specs.Refusal.{header_right, counts_right, method_right, lengths_right, needs_vehicle, fleet_right, contents}
use Rattle.sheet.specs.Values.{gate_at, demand_of, stop_of, limit_at, rest_after, vehicle_of, distance_of, time_of, rests_home_at}
use Rattle.sheet.specs.Fleet.{index_from}
use Rattle.sheet_writer.specs.Sheet.{records_bytes}
use Rattle.evaluation_clock.specs.Window.{waiting_of, lateness_of, violated_of}
use Rattle.evaluation_clock.specs.Serve.{pass, serve_of, serve_rested}
use Rattle.evaluation_clock.specs.Clock.{step_of, step_rested, earlier_of, taken_of, moved_of, unrested, end_of, homeward, returned}
use Rattle.evaluation.specs.Walk.{drive_to, home_from, scheduled_of}
use Rattle.evaluation.specs.Limits.{limits_at, allow_of}
use Rattle.evaluation.specs.Verdict.{held_to, mends, or_home, verdict_of, verdict_from}
use Rattle.evaluator.specs.Record.{placed_of, ready_for, departs_at, late_after, cost_after, visited_of, record_of, build_route}
use Rattle.constructive.specs.Right.{ids_known, links_right, each_once, outcome_right}
use Rattle.constructive.specs.Outcome.{chains}
use Rattle.plan.specs.Read.{rounds_at, aside_at, id_at, first_stop_at, next_at, chain_from, rounds_from, read_plan, plan_right}
use Rattle.plan_reasons.specs.Reasons.{reason_at, reasons_right}
use Rattle.plan_door.specs.Door.{unread_refusal, plan_taken, door_refusal}
use Rattle.tariff.specs.Units.{begun_of}
use Rattle.tariff.specs.Charge.{charge_of, rates_right}
use Rattle.tariff_bill.specs.Bill.{charges_of, sum_of, bill_bytes, bill_of, bill_room, bill_refusal}
use Rattle.planner_cases.specs.Bills.{BillHolds, bill_rows}

pub bills_right : Every BillHolds bill_rows
unfolding bill_refusal bill_room door_refusal unread_refusal header_right counts_right method_right lengths_right needs_vehicle fleet_right contents rows_of vehicles_of method_of times_of spare_of row_marks id_field depot_field vehicle_marks marked leading depots_of coordinate demand capacity marks vehicle_marking amount zero_bits optional interval cost_per_distance serving_in_range row_in_range maxima_in_range rest_in_range vehicle_in_range same_id new_id rows_in_range entries_in_range vehicles_in_range in_range all number bytes signed f64_at add sub of_bits lt le round rounds_at aside_at id_at first_stop_at next_at chain_from index_from rounds_from read_plan ids_known chains links_right count each_once outcome_right plan_right rates_right gate_at demand_of stop_of limit_at rest_after vehicle_of distance_of time_of rests_home_at limits_at waiting_of lateness_of violated_of pass serve_of serve_rested step_of step_rested earlier_of taken_of moved_of unrested end_of homeward returned drive_to home_from scheduled_of allow_of held_to mends or_home verdict_of verdict_from placed_of ready_for departs_at late_after cost_after visited_of record_of build_route begun_of charge_of charges_of sum_of records_bytes bill_bytes bill_of plan_taken reasons_right reason_at
bills_right = ((refl, refl), ((refl, refl), ((refl, refl), ((refl, refl), ((refl, refl), ((refl, refl), ((refl, refl), ((refl, refl), ((refl, refl), ((refl, refl), ((refl, refl), ((refl, refl), ((refl, refl), ((refl, refl), ((refl, refl), (refl, (refl, (refl, (refl, (refl, (refl, (refl, (refl, (refl, (refl, (refl, (refl, (refl, (refl, (refl, (refl, (refl, (refl, (refl, (refl, (refl, (refl, (refl, (refl, (refl, (refl, (refl, tt))))))))))))))))))))))))))))))))))))))))))
