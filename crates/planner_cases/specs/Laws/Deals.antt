-- Examples of request Seven, computed from the definitions: one theorem over a table; and deals that break the contract's clauses. Assumes nothing.
use Rattle.std.specs.Prelude.{◌≡◌, refl, ℕ, List, [], ◌∷◌}
use Rattle.std.proofs.Common.{subst}
use Rattle.std.specs.Float.Ieee.{add, sub, of_bits, lt, le, round}
use Rattle.lists.specs.Count.{count}
use Rattle.lists.specs.Every.{Every}
use Rattle.wire.specs.Bytes.{le as number, bytes, signed, f64_at}
use Rattle.numbers.specs.Range.{in_range}
use Rattle.numbers.specs.All.{all}
use Rattle.sheet.specs.Fields.{rows_of, vehicles_of, method_of, times_of, spare_of, row_marks, id_field, depot_field, vehicle_marks, marked}
use Rattle.sheet.specs.Depots.{leading, depots_of}
use Rattle.sheet.specs.Ranges.{coordinate, demand, capacity, marks, vehicle_marking, amount, zero_bits, optional, interval, cost_per_distance, serving_in_range, row_in_range, maxima_in_range, rest_in_range, vehicle_in_range, same_id, new_id, rows_in_range, entries_in_range, vehicles_in_range}
use Rattle.sheet.specs.Refusal.{header_right, counts_right, method_right, lengths_right, needs_vehicle, fleet_right, contents}
use Rattle.sheet.specs.Values.{gate_at, demand_of, stop_of, limit_at, rest_after, vehicle_of, distance_of, time_of, rests_home_at}
use Rattle.sheet.specs.Fleet.{index_from}
use Rattle.evaluation_clock.specs.Window.{waiting_of, lateness_of, violated_of}
use Rattle.evaluation_clock.specs.Serve.{pass, serve_of, serve_rested}
use Rattle.evaluation_clock.specs.Clock.{step_of, step_rested, earlier_of, taken_of, moved_of, unrested, end_of, homeward, returned}
use Rattle.evaluation.specs.Walk.{drive_to, home_from, scheduled_of}
use Rattle.evaluation.specs.Limits.{limits_at, allow_of}
use Rattle.evaluation.specs.Verdict.{held_to, mends, or_home, verdict_of, verdict_from}
use Rattle.evaluator.specs.Record.{placed_of, ready_for, departs_at, late_after, cost_after, visited_of, record_of, build_route}
use Rattle.constructive.specs.Right.{ids_known, links_right, each_once, outcome_right}
use Rattle.constructive.specs.Outcome.{chains}
use Rattle.plan.specs.Read.{rounds_at, aside_at, id_at, first_stop_at, next_at, chain_from, rounds_from, read_plan, plan_right}
use Rattle.plan_reasons.specs.Reasons.{reason_at, reasons_right}
use Rattle.plan_door.specs.Door.{unread_refusal, plan_taken, door_refusal}
use Rattle.tariff.specs.Units.{begun_of}
use Rattle.crews.specs.Deal.{total_of, longest_left, least_crew, dealt_next, dealt_on, dealt, crews_right}
use Rattle.crews.specs.Fair.{Shared, Even, LargestBounded}
use Rattle.crews.specs.Laws.Cases.{in_turn_unbounded, none_dealt_unshared}
use Rattle.crews.specs.Laws.OwnOrder.{own_order_dealt, own_order_uneven}
use Rattle.crews_deal.specs.Rounds.{whole_durations, plan_durations, deal_of, deal_room, deal_refusal, DealShared, DealEven, DealBounded}
use Rattle.sheet.specs.SheetA.{f1}
use Rattle.planner_cases.specs.Deals.{half, two, legs_sheet, three_rounds, DealHolds, deal_rows}

pub deals_right : Every DealHolds deal_rows
unfolding deal_refusal deal_room door_refusal unread_refusal header_right counts_right method_right lengths_right needs_vehicle fleet_right contents rows_of vehicles_of method_of times_of spare_of row_marks id_field depot_field vehicle_marks marked leading depots_of coordinate demand capacity marks vehicle_marking amount zero_bits optional interval cost_per_distance serving_in_range row_in_range maxima_in_range rest_in_range vehicle_in_range same_id new_id rows_in_range entries_in_range vehicles_in_range in_range all number bytes signed f64_at add sub of_bits lt le round rounds_at aside_at id_at first_stop_at next_at chain_from index_from rounds_from read_plan ids_known chains links_right count each_once outcome_right plan_right gate_at demand_of stop_of limit_at rest_after vehicle_of distance_of time_of rests_home_at limits_at waiting_of lateness_of violated_of pass serve_of serve_rested step_of step_rested earlier_of taken_of moved_of unrested end_of homeward returned drive_to home_from scheduled_of allow_of held_to mends or_home verdict_of verdict_from placed_of ready_for departs_at late_after cost_after visited_of record_of build_route begun_of plan_taken reasons_right reason_at crews_right whole_durations plan_durations deal_of total_of longest_left least_crew dealt_next dealt_on dealt
deals_right = ((refl, (refl, refl)), ((refl, (refl, refl)), ((refl, (refl, refl)), ((refl, (refl, refl)), ((refl, (refl, refl)), ((refl, (refl, refl)), ((refl, (refl, refl)), ((refl, (refl, refl)), ((refl, (refl, refl)), ((refl, (refl, refl)), ((refl, (refl, refl)), ((refl, (refl, refl)), ((refl, (refl, refl)), (refl, (refl, (refl, (refl, (refl, (refl, (refl, (refl, (refl, (refl, (refl, (refl, (refl, (refl, (refl, (refl, tt)))))))))))))))))))))))))))))

-- ---- wrong deals of plans whose rounds take 1, 1 and 2, and 4, 1 and 4
abbrev sheet₁ : List ℕ
sheet₁ = legs_sheet f1 half f1

abbrev plan₁ : List ℕ
plan₁ = three_rounds 0 1 2

abbrev sheet₂ : List ℕ
sheet₂ = legs_sheet f1 two two

abbrev plan₂ : List ℕ
plan₂ = three_rounds 1 0 2

-- as the table has them
durations₁ : plan_durations sheet₁ plan₁ ≡ 1 ∷ 1 ∷ 2 ∷ []
durations₁ = deals_right.1.1.1.1.1.1.1.1.1.0.1.0

durations₂ : plan_durations sheet₂ plan₂ ≡ 4 ∷ 1 ∷ 4 ∷ []
durations₂ = deals_right.1.1.1.1.1.1.1.1.1.1.0.1.0

-- **even**: rounds dealt in their own order, each to the crew with the least total
pub own_order : DealEven sheet₁ plan₁ 2 0 (1 ∷ 2 ∷ 1 ∷ []) → ⊥
own_order f = own_order_uneven (rw own_order_dealt (subst (λ (ds : List ℕ). Even 2 ds (1 ∷ 2 ∷ 1 ∷ [])) durations₁ (f refl)))

-- **bounded**: rounds dealt in turn, whatever they take
pub in_turn : DealBounded sheet₂ plan₂ 2 0 (1 ∷ 2 ∷ 1 ∷ []) → ⊥
in_turn f = in_turn_unbounded (subst (λ (ds : List ℕ). LargestBounded 2 ds (1 ∷ 2 ∷ 1 ∷ [])) durations₂ (f refl))

-- **shared**: no round dealt
pub none_dealt : DealShared sheet₂ plan₂ 2 0 (0 ∷ 0 ∷ 0 ∷ []) → ⊥
none_dealt f = none_dealt_unshared (subst (λ (ds : List ℕ). Shared 2 ds (0 ∷ 0 ∷ 0 ∷ [])) durations₂ (f refl))
