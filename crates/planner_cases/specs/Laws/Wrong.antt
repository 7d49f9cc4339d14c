-- Plans that break demand 3's clauses: "one setting every pond aside (demand 3's insertion clause); one making each pond a lone round (closing clause)",
-- one that passes over a stop, one that reports that there is no schedule. Assumes nothing.
use Rattle.std.proofs.Common.{arith, true≢false}
use Rattle.std.specs.Prelude.{refl}
use Rattle.std.specs.Float.Ieee.{of_bits}
use Rattle.lists.specs.Count.{count}
use Rattle.lists.specs.Filter.{filtered}
use Rattle.wire.specs.Bytes.{le as number, bytes, f64_at}
use Rattle.sheet.specs.Fields.{rows_of, vehicles_of, method_of, times_of, row_marks, id_field, depot_field, vehicle_marks, marked}
use Rattle.sheet.specs.Depots.{leading, depots_of}
use Rattle.sheet.specs.Values.{demand_of, vehicle_of, distance_of, time_of}
use Rattle.sheet.specs.Fleet.{index_from, fleet_of}
use Rattle.sheet.specs.SheetA.{f10, sheet_a, sheet_carrying}
use Rattle.lawful.specs.Lawful.{stop_n, walk_n, travel_n, some_place, lawful, load_n, keeps_capacity, makes_round, some_seed_first}
use Rattle.constructive.specs.Outcome.{chains}
use Rattle.clarke_wright_savings.specs.Laws.Cases.{within}
use Rattle.solomon_i1.specs.Laws.Cases.{due}
use Rattle.plan.specs.Read.{rounds_at, aside_at, id_at, first_stop_at, next_at, chain_from, rounds_from, read_plan}
use Rattle.plan_reasons.specs.Reasons.{reason_at}
use Rattle.planner.specs.Answer.{Standing, Once, Feasibly, Lawful, Alone, higher, set_aside, Closed}
use Rattle.planner.specs.Reasoned.{Reasoned}
use Rattle.planner_cases.specs.LimitRefusals.{reason_on_round}
use Rattle.planner_cases.specs.Table.{nine, twelve, twenty_three, one_two, two_one, one_and_two, both_aside, sheet_at}
use Rattle.planner_cases.specs.WrongPlans.{fifteen, bent_sheet, one_alone, one_and_padding, two_missing, two_twice, LawfulRests}
use Rattle.planner_cases.specs.Laws.WholeSheets.{whole_sheets}

-- ---- **once**: a stop on no round and not aside, and one on two rounds
pub missing_stands : Standing (sheet_a 1) two_missing → ⊥
unfolding rows_of vehicles_of row_marks id_field marked leading depots_of rounds_at aside_at id_at first_stop_at next_at chain_from index_from rounds_from read_plan chains count number bytes
missing_stands t = let e = t.each 2 (omega arith) (omega arith) in omega (arith, e)

pub stop_missing : Once (sheet_a 1) 0 two_missing → ⊥
stop_missing f = missing_stands (f refl)

pub stop_twice : Once (sheet_a 1) 0 two_twice → ⊥
unfolding rows_of vehicles_of row_marks id_field marked leading depots_of rounds_at aside_at id_at first_stop_at next_at chain_from index_from rounds_from read_plan chains count number bytes
stop_twice f = let e = (f refl).each 2 (omega arith) (omega arith) in omega (arith, e)

-- ---- **feasible**: a second round without a stop, and a load of 2 where 1 is carried
pub empty_round : Feasibly (within twenty_three) 0 one_and_padding → ⊥
unfolding rows_of vehicles_of id_field rounds_at aside_at id_at first_stop_at next_at chain_from index_from rounds_from read_plan number bytes
empty_round f = omega (arith, (f refl).1.0.some)

pub overfull_round : Feasibly (sheet_carrying 1) 0 one_two → ⊥
unfolding rows_of vehicles_of method_of id_field demand_of rounds_at aside_at id_at first_stop_at next_at chain_from index_from rounds_from read_plan load_n keeps_capacity number bytes
overfull_round f = (f refl).0.capacity

-- ---- **lawful**: a load of 2 where 1 is carried, stop 1 reached at 14 and due 10, a distance of 24 where 23 is the most, a rest at 9 and no stop before 10
pub over_capacity_lem : Lawful (sheet_carrying 1) 0 one_two → ⊥
unfolding rows_of vehicles_of method_of id_field demand_of rounds_at aside_at id_at first_stop_at next_at chain_from index_from rounds_from read_plan load_n keeps_capacity number bytes
over_capacity_lem f = (f refl whole_sheets.carrying_one.whole (λ e. omega (arith, e))).0.capacity

pub window_missed_lem : Lawful (due f10) 0 two_one → ⊥
unfolding rows_of vehicles_of method_of times_of row_marks id_field depot_field vehicle_marks marked distance_of time_of rounds_at aside_at id_at first_stop_at next_at chain_from index_from rounds_from read_plan stop_n walk_n travel_n some_place lawful number bytes f64_at of_bits
window_missed_lem f = (f refl whole_sheets.due_ten.whole (λ e. omega (arith, e))).0.schedule

pub over_distance_lem : Lawful (within twenty_three) 0 one_two → ⊥
unfolding rows_of vehicles_of method_of times_of row_marks id_field depot_field vehicle_marks marked distance_of time_of rounds_at aside_at id_at first_stop_at next_at chain_from index_from rounds_from read_plan stop_n walk_n travel_n some_place lawful number bytes f64_at of_bits
over_distance_lem f = (f refl whole_sheets.within_twenty_three.whole (λ e. omega (arith, e))).0.schedule

pub rest_missed : Lawful (sheet_at 0 nine) 0 one_two → ⊥
unfolding rows_of vehicles_of method_of times_of row_marks id_field depot_field vehicle_marks marked distance_of time_of rounds_at aside_at id_at first_stop_at next_at chain_from index_from rounds_from read_plan stop_n walk_n travel_n some_place lawful number bytes f64_at of_bits
rest_missed f = (f refl whole_sheets.rest_at_nine.whole (λ e. omega (arith, e))).0.schedule

-- ---- **alone**: both stops can make a round alone
pub all_aside : Alone (sheet_a 1) 0 (both_aside 0) → ⊥
unfolding rows_of vehicles_of method_of times_of row_marks id_field depot_field vehicle_marks marked leading depots_of demand_of vehicle_of distance_of time_of rounds_at aside_at id_at first_stop_at next_at chain_from index_from rounds_from read_plan stop_n walk_n travel_n some_place lawful load_n keeps_capacity makes_round filtered fleet_of number bytes f64_at of_bits
all_aside f = true≢false (f refl whole_sheets.of_sheet_a.whole refl refl).0

-- "one reporting "no schedule" before walking": each stop needs a rest, and has one before it
pub no_schedule_lem : Alone (sheet_at 1 twelve) 0 (both_aside 0) → ⊥
unfolding rows_of vehicles_of method_of times_of row_marks id_field depot_field vehicle_marks marked leading depots_of demand_of vehicle_of distance_of time_of rounds_at aside_at id_at first_stop_at next_at chain_from index_from rounds_from read_plan stop_n walk_n travel_n some_place lawful load_n keeps_capacity makes_round filtered fleet_of number bytes f64_at of_bits
no_schedule_lem f = true≢false (f refl whole_sheets.rest_at_twelve.whole refl refl).0

-- ---- **reasoned**: two stops set aside without a reason, and a reason for a stop on a round
pub reason_untold : Reasoned (sheet_a 1) 0 (both_aside 0) → ⊥
unfolding rows_of rounds_at aside_at next_at chain_from rounds_from read_plan reason_at number bytes
reason_untold f = let e = (f refl).each.0.some in omega (arith, e)

pub reason_of_routed : Reasoned (sheet_a 1) 0 (reason_on_round 5) → ⊥
unfolding rows_of vehicles_of id_field rounds_at aside_at id_at first_stop_at next_at chain_from index_from rounds_from read_plan count reason_at number bytes
reason_of_routed f = let e = (f refl).others 1 (omega arith) (omega arith) in omega (arith, e)

pub lawful_rests : LawfulRests
unfolding rows_of vehicles_of times_of row_marks depot_field vehicle_marks marked distance_of time_of stop_n walk_n travel_n some_place lawful number bytes f64_at of_bits
lawful_rests = record { at_twelve = refl; before_first = refl; at_twenty_four = refl; unrested = refl; at_nine = refl; later_place = refl; not_before_first = refl; before_second = refl; returned_at = refl; not_at_home = refl; at_home = refl; home_ends = refl }

-- ---- **closed**: stop 2 stands on the higher round, and fits before stop 1
pub each_alone : Closed (sheet_a 1) 0 one_and_two → ⊥
unfolding rows_of vehicles_of method_of times_of row_marks id_field depot_field vehicle_marks marked leading depots_of demand_of vehicle_of distance_of time_of rounds_at aside_at id_at first_stop_at next_at chain_from index_from rounds_from read_plan count stop_n walk_n travel_n some_place lawful load_n keeps_capacity makes_round number bytes f64_at of_bits
each_alone f = true≢false (f refl whole_sheets.of_sheet_a.whole refl refl 0 2 (omega arith) (higher 1 (omega arith) (omega arith) (omega arith)) 0 (omega arith))

-- a nearer stop set aside that fits before stop 1; **alone** does not rule it out
pub passed_over : Closed bent_sheet 0 (one_alone fifteen) → ⊥
unfolding rows_of vehicles_of method_of times_of row_marks id_field depot_field vehicle_marks marked leading depots_of demand_of vehicle_of distance_of time_of rounds_at aside_at id_at first_stop_at next_at chain_from index_from rounds_from read_plan count stop_n walk_n travel_n some_place lawful load_n keeps_capacity makes_round some_seed_first number bytes f64_at of_bits
passed_over f = true≢false (f refl whole_sheets.bent.whole refl refl 0 2 (omega arith) (set_aside (omega arith) tt) 0 (omega arith))

pub passed_over_keeps_alone : Alone bent_sheet 0 (one_alone fifteen)
unfolding rows_of vehicles_of method_of times_of row_marks id_field depot_field vehicle_marks marked leading depots_of demand_of vehicle_of distance_of time_of rounds_at aside_at id_at first_stop_at next_at chain_from index_from rounds_from read_plan stop_n walk_n travel_n some_place lawful load_n keeps_capacity makes_round filtered fleet_of number bytes f64_at of_bits
passed_over_keeps_alone answered whole insertion one = (refl, tt)
