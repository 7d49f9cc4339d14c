-- Plans out that break the limiter's clauses. Assumes nothing.
use Rattle.std.specs.Prelude.{ℕ, ◌≤◌, ◌≡◌, refl, List, [], length}
use Rattle.std.proofs.Common.{arith, ap, ◌∙◌}
use Rattle.std.specs.Float.Ieee.{add, sub, of_bits, to_bits, lt, le, round}
use Rattle.lists.specs.Count.{count}
use Rattle.lists.specs.Every.{Every}
use Rattle.lists.specs.Filter.{filtered}
use Rattle.lists.specs.Laws.Every.{every_at}
use Rattle.wire.specs.Bytes.{le as number, bytes, signed, write, f64_at}
use Rattle.numbers.specs.Range.{in_range}
use Rattle.numbers.specs.All.{all}
use Rattle.sheet.specs.Fields.{rows_of, vehicles_of, method_of, times_of, spare_of, row_marks, id_field, vehicle_marks, marked, depot_field}
use Rattle.sheet.specs.Depots.{leading, depots_of}
use Rattle.sheet.specs.Ranges.{coordinate, demand, capacity, marks, vehicle_marking, amount, zero_bits, optional, interval, cost_per_distance, serving_in_range, row_in_range, maxima_in_range, rest_in_range, vehicle_in_range, same_id, new_id, rows_in_range, entries_in_range, vehicles_in_range}
use Rattle.sheet.specs.Refusal.{header_right, counts_right, method_right, lengths_right, needs_vehicle, fleet_right, contents}
use Rattle.sheet.specs.Values.{gate_at, demand_of, stop_of, limit_at, rest_after, vehicle_of, distance_of, time_of}
use Rattle.sheet.specs.Fleet.{index_from}
use Rattle.sheet.specs.SheetA.{f10, sheet_a, sheet_carrying}
use Rattle.evaluation_clock.specs.Window.{waiting_of, lateness_of, violated_of}
use Rattle.evaluation_clock.specs.Serve.{pass, serve_of}
use Rattle.evaluation_clock.specs.Clock.{step_of, taken_of, moved_of, unrested, returned}
use Rattle.evaluation.specs.Walk.{drive_to}
use Rattle.evaluation.specs.Limits.{limits_at, allow_of}
use Rattle.evaluation.specs.Verdict.{held_to, mends, or_home, verdict_of, verdict_from}
use Rattle.evaluation.specs.Feasible.{route_feasible}
use Rattle.evaluation.specs.Checks.{some_windowed, has_soft_windows}
use Rattle.constructive.specs.Outcome.{Round, chains, round_at}
use Rattle.constructive.specs.Right.{ids_known, links_right, each_once, outcome_right}
use Rattle.constructive.specs.Load.{load_of}
use Rattle.constructive.specs.Rounds.{Feasible}
use Rattle.solomon_i1.specs.Laws.Cases.{due}
use Rattle.plan.specs.Plan.{aside_bytes, header_bytes, with_rounds, with_aside, price_of, plan_bytes, plan_of}
use Rattle.plan.specs.Read.{rounds_at, aside_at, id_at, first_stop_at, next_at, chain_from, rounds_from, read_plan, plan_right}
use Rattle.plan_reasons.specs.Reasons.{with_reasons, reason_at, reasons_right}
use Rattle.plan_reasons.specs.Copying.{copied_reason}
use Rattle.plan_door.specs.Door.{unread_refusal, plan_taken, door_refusal}
use Rattle.fleet.specs.Cheapest.{insertion_from, pick_from}
use Rattle.fleet.specs.Limit.{least_from, victim_of, refit, refit_on, drop_round, limit_on, limit_routes}
use Rattle.fleet.specs.Stood.{Stood, untouched, refitted}
use Rattle.planner_limiting.specs.Limiting.{limit_refusal, limited_plan}
use Rattle.planner.specs.Answer.{Answer, planned, bytes_of}
use Rattle.planner.specs.Limited.{limit_answer, LimitAnswered, LimitOnce, LimitFew, LimitStood, LimitAside}
use Rattle.planner.specs.Reasoned.{LimitReasoned}
use Rattle.planner_cases.specs.Table.{one_two, two_one, one_and_two, two_alone, each_aside, both_aside}
use Rattle.planner_cases.specs.WrongPlans.{two_missing, aside_two_one}
use Rattle.planner_cases.specs.Laws.Wrong.{missing_stands}

-- **once**: stop 2 is lost with its round
pub stop_lost : LimitOnce (sheet_a 1) 0 two_missing → ⊥
stop_lost f = missing_stands (f refl)

-- **few**: two rounds where one is the most
pub one_too_many : LimitFew (sheet_a 1) 1 0 one_and_two → ⊥
unfolding rounds_at rounds_from read_plan number bytes
one_too_many f = let h = f refl in omega (arith, h)

-- **stood**: rounds of one stop joined, and the round so made does not pass
module _ (s : List ℕ) (before : List Round) (r : Round) (ones : Every (λ (b : Round). length b.stops ≡ 1) before) (two : length r.stops ≡ 2) (not : Feasible s 0 r → ⊥) where
  not_stood : Stood s before r → ⊥
  not_stood (untouched i h e) =
      let l = every_at (λ (b : Round). length b.stops ≡ 1) (record { vehicle = 0; stops = [] }) before i h ones in
      let m = ap (λ (b : Round). length b.stops) e in
      omega (arith, l, m, two)
  not_stood (refitted f) = not f

-- a load of 2 where 1 is carried
pub overloaded : LimitStood (sheet_carrying 1) one_and_two 0 one_two → ⊥
unfolding rows_of vehicles_of id_field demand_of vehicle_of load_of rounds_at aside_at id_at first_stop_at next_at chain_from index_from rounds_from read_plan number bytes signed
overloaded f =
    not_stood (sheet_carrying 1) (read_plan (sheet_carrying 1) one_and_two).rounds (round_at (read_plan (sheet_carrying 1) one_two).rounds 0) (refl, (refl, tt)) refl
    (λ p. let l : 2 ≤ 1 = p.carried.capacity in omega (arith, l)) (f refl).0

-- stop 1 reached at 14 and due 10
pub joined_late : LimitStood (due f10) one_and_two 0 two_one → ⊥
unfolding rows_of vehicles_of times_of row_marks id_field vehicle_marks marked gate_at demand_of stop_of depot_field limits_at limit_at rest_after vehicle_of distance_of time_of waiting_of lateness_of violated_of pass serve_of step_of taken_of moved_of unrested returned drive_to allow_of held_to mends or_home verdict_of verdict_from route_feasible rounds_at aside_at id_at first_stop_at next_at chain_from index_from rounds_from read_plan number bytes signed f64_at add sub of_bits lt le
joined_late f =
    not_stood (due f10) (read_plan (due f10) one_and_two).rounds (round_at (read_plan (due f10) two_one).rounds 0) (refl, (refl, tt)) refl
    (λ p. p.feasible) (f refl).0

-- **aside**: stop 1 was set aside and is on a round; both are, in descending order
pub taken_back : LimitAside (sheet_a 1) (two_alone 0) 0 one_two → ⊥
unfolding rows_of rounds_at aside_at next_at chain_from rounds_from read_plan count number bytes
taken_back f = let e = (f refl).stay 1 (omega arith) in omega (arith, e)

pub aside_descending : LimitAside (sheet_a 1) (both_aside 0) 0 aside_two_one → ⊥
unfolding rows_of rounds_at aside_at next_at chain_from rounds_from read_plan number bytes
aside_descending f = let h = (f refl).ascending.0.0 in omega (arith, h)

-- **answer**: stop 1 was set aside with reason 3, and the round of stop 2 is dropped
dropped_last : limit_answer (sheet_a 1) (two_alone 3) 0 256 ≡ planned (each_aside 3 8)
unfolding limit_answer limit_refusal door_refusal unread_refusal plan_taken reasons_right reason_at header_right counts_right method_right lengths_right needs_vehicle fleet_right contents coordinate demand capacity marks vehicle_marking amount zero_bits optional interval cost_per_distance serving_in_range row_in_range maxima_in_range rest_in_range vehicle_in_range same_id new_id rows_in_range entries_in_range vehicles_in_range in_range all rows_of vehicles_of method_of times_of spare_of row_marks id_field depot_field vehicle_marks marked leading depots_of rounds_at aside_at id_at first_stop_at next_at chain_from index_from rounds_from read_plan ids_known chains links_right count each_once outcome_right plan_right limited_plan copied_reason with_reasons limit_routes limit_on drop_round refit_on refit victim_of least_from pick_from insertion_from filtered gate_at stop_of has_soft_windows some_windowed aside_bytes header_bytes with_rounds with_aside price_of plan_bytes plan_of number bytes signed write f64_at of_bits to_bits le round
dropped_last = refl

module _ (lent : List ℕ) (n : ℕ) (room : length lent ≡ 256) where
  limited_to_none : (out : List ℕ) → LimitAnswered (sheet_a 1) (two_alone 3) 0 lent n out → out ≡ each_aside 3 8
  limited_to_none out a = a.bytes ∙ rw room (ap (λ (x : Answer). bytes_of x lent) dropped_last)

  -- the stop that is dropped has the reason of a fleet that is used up
  pub dropped_as_used_up : LimitAnswered (sheet_a 1) (two_alone 3) 0 lent n (each_aside 3 7) → ⊥
  unfolding number bytes reason_at
  dropped_as_used_up a = let e : 7 ≡ 8 = ap (λ (x : List ℕ). reason_at x 3 2) (limited_to_none (each_aside 3 7) a) in omega (arith, e)

  -- the one that was set aside before has that of a stop that is dropped
  pub reason_not_copied : LimitAnswered (sheet_a 1) (two_alone 3) 0 lent n (each_aside 8 8) → ⊥
  unfolding number bytes reason_at
  reason_not_copied a = let e : 8 ≡ 3 = ap (λ (x : List ℕ). reason_at x 3 1) (limited_to_none (each_aside 8 8) a) in omega (arith, e)

-- **reasoned**: 7 for a stop that the limiter dropped, and 8 for one that was set aside before
pub dropped_otherwise : LimitReasoned (sheet_a 1) (two_alone 3) 0 (each_aside 3 7) → ⊥
unfolding rows_of vehicles_of id_field rounds_at aside_at id_at first_stop_at next_at chain_from index_from rounds_from read_plan count reason_at number bytes
dropped_otherwise f = let e = (f refl).dropped 2 (omega arith) (omega arith) in omega (arith, e)

pub copied_otherwise : LimitReasoned (sheet_a 1) (two_alone 3) 0 (each_aside 8 8) → ⊥
unfolding rows_of vehicles_of id_field rounds_at aside_at id_at first_stop_at next_at chain_from index_from rounds_from read_plan count reason_at number bytes
copied_otherwise f = let e = (f refl).earlier 1 (omega arith) in omega (arith, e)
