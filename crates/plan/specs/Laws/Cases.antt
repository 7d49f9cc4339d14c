-- Document 01's listing of its case 1, sheet A with the round 1, 2, as the plan's bytes say it; and that plan read back.
use Rattle.std.specs.Prelude.{ℕ, ◌≡◌, refl, true, false, List, [], ◌∷◌, ◌++◌, replicate}
use Rattle.std.specs.Float.Ieee.{add, mul, of_bits, to_bits}
use Rattle.lists.specs.Count.{count}
use Rattle.wire.specs.Bytes.{le as le_bytes, bytes, write, f64_at}
use Rattle.numbers.specs.All.{all}
use Rattle.sheet.specs.Fields.{rows_of, vehicles_of, times_of, row_marks, id_field, depot_field, vehicle_marks, marked}
use Rattle.sheet.specs.Depots.{leading, depots_of}
use Rattle.sheet.specs.Values.{gate_at, demand_of, stop_of, limit_at, rest_after, vehicle_of, distance_of, time_of}
use Rattle.sheet.specs.SheetA.{f10, sheet_a}
use Rattle.sheet.specs.Fleet.{index_from}
use Rattle.evaluation.specs.Limits.{limits_at}
use Rattle.evaluator.specs.Record.{placed_of, ready_for, departs_at, late_after, cost_after, visited_of, record_of, build_route, route_cost, price_with}
use Rattle.constructive.specs.Outcome.{Outcome, chains}
use Rattle.constructive.specs.Right.{ids_known, links_right, each_once, outcome_right}
use Rattle.plan.specs.Plan.{visit_bytes, aside_bytes, round_counts, round_figures, round_bytes, header_bytes, with_visits, with_round, with_rounds, with_aside, price_after, price_of, plan_bytes, plan_of}
use Rattle.plan.specs.Read.{rounds_at, aside_at, id_at, first_stop_at, next_at, chain_from, rounds_from, read_plan, plan_right}

abbrev outcome : Outcome
outcome = record { rounds = record { vehicle = 0; stops = 1 ∷ 2 ∷ [] } ∷ []; aside = [] }

abbrev plan : List ℕ
plan = plan_of (sheet_a 0) outcome true

-- what the bytes say, in the order of the listing
pub record Said : Type 0 where
  -- "rounds 1 aside 0", and the cost of 24 at 1 a unit
  pub header : plan ≡ write plan 0 (bytes 2 1 ++ (bytes 2 0 ++ (bytes 2 3 ++ (bytes 2 0 ++ bytes 8 0x4038_0000_0000_0000))))
  -- "round 7 first 1 load 2 rest 0 4038000000000000 4038000000000000"
  pub round : plan ≡ write plan 16 (bytes 4 7 ++ (bytes 4 2 ++ (bytes 2 1 ++ (bytes 2 0 ++ (bytes 4 0 ++ (bytes 8 0x4038_0000_0000_0000 ++ (bytes 8 0x4038_0000_0000_0000 ++ replicate 24 0)))))))
  -- "stop 1 next 2 load 1 4024000000000000 4024000000000000", "stop 2 next 0 load 2 402C000000000000 402C000000000000"
  pub visits : plan ≡ write plan 208 (bytes 2 2 ++ (bytes 2 0 ++ (bytes 4 1 ++ (bytes 8 f10 ++ (bytes 8 f10 ++ (bytes 2 0 ++ (bytes 2 0 ++ (bytes 4 2 ++ (bytes 8 0x402c_0000_0000_0000 ++ bytes 8 0x402c_0000_0000_0000)))))))))
  pub read_back : read_plan (sheet_a 0) plan ≡ outcome
  pub right : plan_right (sheet_a 0) plan ≡ true
  -- 10: "next of 2 is 2"
  pub wrong : plan_right (sheet_a 0) (write plan 232 (bytes 2 2)) ≡ false

pub said : Said
unfolding plan_of plan_bytes with_rounds with_round with_visits with_aside visit_bytes aside_bytes round_counts round_figures round_bytes header_bytes price_after price_of placed_of ready_for departs_at late_after cost_after visited_of record_of build_route route_cost price_with gate_at demand_of stop_of limits_at limit_at rest_after vehicle_of distance_of time_of rows_of vehicles_of times_of row_marks id_field depot_field vehicle_marks marked le_bytes bytes write f64_at add mul of_bits to_bits read_plan rounds_from chain_from index_from rounds_at aside_at id_at first_stop_at next_at plan_right outcome_right ids_known chains links_right count each_once all leading depots_of
said = record { header = refl; round = refl; visits = refl; read_back = refl; right = refl; wrong = refl }
