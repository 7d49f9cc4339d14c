-- Document 01, "Sheet A and its relatives": "Proved of the definitions, as a table that one theorem covers".
use Rattle.std.specs.Prelude.{refl}
use Rattle.std.specs.Float.Ieee.{add, sub, mul, div, of_bits, to_bits, lt, eq, le, round, sum}
use Rattle.lists.specs.Fold.{last_of}
use Rattle.lists.specs.Count.{count}
use Rattle.lists.specs.Every.{Every}
use Rattle.lists.specs.Filter.{filtered}
use Rattle.wire.specs.Bytes.{le as number, bytes, signed, write, f64_at}
use Rattle.numbers.specs.Range.{in_range}
use Rattle.numbers.specs.All.{all}
use Rattle.sorting.specs.Stable.{insert, sorted}
use Rattle.sheet.specs.Fields.{rows_of, vehicles_of, method_of, times_of, spare_of, row_marks, id_field, depot_field, vehicle_marks, marked}
use Rattle.sheet.specs.Depots.{leading, depots_of}
use Rattle.sheet.specs.Ranges.{coordinate, demand, capacity, marks, vehicle_marking, amount, zero_bits, optional, interval, cost_per_distance, serving_in_range, row_in_range, maxima_in_range, rest_in_range, vehicle_in_range, same_id, new_id, rows_in_range, entries_in_range, vehicles_in_range}
use Rattle.sheet.specs.Refusal.{header_right, counts_right, method_right, lengths_right, needs_vehicle, fleet_right, contents, refusal_of}
use Rattle.sheet.specs.Values.{gate_at, demand_of, stop_of, limit_at, rest_after, vehicle_of, distance_of, time_of, fixed_in_distance, rests_home_at}
use Rattle.sheet.specs.Fleet.{fleet_of}
use Rattle.evaluation_clock.specs.Window.{waiting_of, lateness_of, violated_of}
use Rattle.evaluation_clock.specs.Serve.{pass, serve_of, serve_rested}
use Rattle.evaluation_clock.specs.Clock.{step_of, step_rested, earlier_of, taken_of, moved_of, unrested, end_of, homeward, returned}
use Rattle.evaluation.specs.Walk.{drive_to, home_from, scheduled_of}
use Rattle.evaluation.specs.Limits.{limits_at, is_unlimited, allow_of}
use Rattle.evaluation.specs.Verdict.{held_to, mends, or_home, verdict_of, verdict_from}
use Rattle.evaluation.specs.Feasible.{route_feasible}
use Rattle.evaluation.specs.Checks.{some_windowed, has_time_windows, has_soft_windows, route_checks_needed}
use Rattle.evaluator.specs.Record.{placed_of, ready_for, departs_at, late_after, cost_after, visited_of, record_of, build_route, route_cost, price_with}
use Rattle.constructive.specs.Load.{load_of}
use Rattle.constructive.specs.Terms.{terms_of, route_fits}
use Rattle.insertion.specs.Place.{judge, try_places}
use Rattle.nearest_neighbor_choice.specs.Choice.{choose}
use Rattle.nearest_neighbor.specs.Greedy.{extend, extend_on, greedy}
use Rattle.nearest_neighbor_choice.specs.Offers.{nearest_offer, window_offer}
use Rattle.nearest_neighbor.specs.Nearest.{nearest_onward, nearest_neighbor, window_onward, nearest_neighbor_tw}
use Rattle.clarke_wright_savings.specs.Savings.{same_back, symmetric, directed_of, savings_from, savings_of, numbered, ranked, starts_alone, starts_of, slot_of, merge_passes, merge_of, merged_by, rounds_of, aside_of, planned_by, clarke_wright}
use Rattle.solomon_i1_judging.specs.Choice.{try_stops}
use Rattle.solomon_i1.specs.Insertion.{farthest_from, grow, grow_on, seed_step, plan_on, solomon_i1}
use Rattle.sweep.specs.Angle.{direction_of, part_of, turns_left, below, sweeps_before}
use Rattle.sweep.specs.Sweep.{unservable, closes, stepped, swept_from, swept_by, sweep}
use Rattle.multi_depot_offers.specs.ByDepot.{has_vehicle, sooner, with_vehicle, construct_of, planned_of, outcome_of}
use Rattle.plan.specs.Plan.{visit_bytes, aside_bytes, round_counts, round_figures, round_bytes, header_bytes, with_visits, with_round, with_rounds, with_aside, price_after, price_of, plan_bytes, plan_of}
use Rattle.reason.specs.Reason.{tried_from, last_tried, over_capacity, window_missed, no_rest_place, over_distance, over_duration, over_plain_duration, plain_reason, walked_reason, lone_reason, some_makes, reason_by, reason_of}
use Rattle.plan_reasons.specs.Reasons.{with_reasons}
use Rattle.planner.specs.Answer.{priced, plan_for, answer_of}
use Rattle.planner_cases.specs.Table.{RowHolds, table_rows}

pub table_right : Every RowHolds table_rows
unfolding answer_of refusal_of header_right counts_right method_right lengths_right needs_vehicle fleet_right contents coordinate demand capacity marks vehicle_marking amount zero_bits optional interval cost_per_distance serving_in_range row_in_range maxima_in_range rest_in_range vehicle_in_range same_id new_id rows_in_range entries_in_range vehicles_in_range in_range all rows_of vehicles_of method_of times_of spare_of row_marks id_field depot_field vehicle_marks marked leading depots_of gate_at demand_of stop_of limits_at rests_home_at limit_at rest_after vehicle_of distance_of time_of fixed_in_distance waiting_of lateness_of violated_of pass serve_of serve_rested step_of step_rested earlier_of taken_of moved_of unrested end_of homeward returned drive_to home_from scheduled_of is_unlimited allow_of held_to mends or_home verdict_of verdict_from route_feasible some_windowed has_time_windows has_soft_windows route_checks_needed last_of placed_of ready_for departs_at late_after cost_after visited_of record_of build_route route_cost price_with visit_bytes aside_bytes round_counts round_figures round_bytes header_bytes with_visits with_round with_rounds with_aside price_after price_of plan_bytes plan_of count load_of terms_of choose extend extend_on greedy nearest_offer nearest_onward nearest_neighbor window_offer window_onward nearest_neighbor_tw same_back symmetric directed_of savings_from savings_of numbered ranked starts_alone starts_of slot_of merge_passes merge_of merged_by rounds_of aside_of planned_by clarke_wright farthest_from judge try_places try_stops grow grow_on seed_step plan_on solomon_i1 direction_of part_of turns_left below sweeps_before route_fits unservable closes stepped swept_from swept_by sweep insert sorted filtered fleet_of with_vehicle construct_of planned_of outcome_of priced plan_for number bytes signed write f64_at add sub mul div of_bits to_bits lt eq le round sum with_reasons reason_of last_tried tried_from has_vehicle sooner reason_by some_makes lone_reason plain_reason walked_reason over_capacity window_missed no_rest_place over_distance over_duration over_plain_duration
table_right = (refl, (refl, (refl, (refl, (refl, (refl, (refl, (refl, (refl, (refl, (refl, (refl, (refl, (refl, (refl, (refl, (refl, (refl, (refl, (refl, (refl, (refl, (refl, (refl, (refl, (refl, (refl, (refl, (refl, tt)))))))))))))))))))))))))))))
