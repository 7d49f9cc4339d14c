-- The limiter on document 01's sheet A and relatives of it, computed from the definitions.
use Rattle.std.specs.Prelude.{◌≡◌, refl, ℕ, List, [], ◌∷◌, ◌++◌, replicate}
use Rattle.std.specs.Float.Ieee.{add, sub, mul, div, of_bits, lt, le}
use Rattle.lists.specs.Count.{count}
use Rattle.lists.specs.Filter.{filtered}
use Rattle.wire.specs.Bytes.{le as number, bytes, f64_at}
use Rattle.sheet.specs.Fields.{rows_of, vehicles_of, times_of, row_marks, vehicle_marks, marked, depot_field}
use Rattle.sheet.specs.Depots.{leading, depots_of}
use Rattle.sheet.specs.Values.{gate_at, demand_of, stop_of, limit_at, rest_after, vehicle_of, distance_of, time_of, fixed_in_distance}
use Rattle.sheet.specs.SheetA.{f1, f4, f10, f64s, sheet_header, row_bytes, no_times, vehicle_bytes, table_bytes, sheet_a, sheet_carrying}
use Rattle.evaluation_clock.specs.Window.{waiting_of, lateness_of, violated_of}
use Rattle.evaluation_clock.specs.Serve.{pass, serve_of}
use Rattle.evaluation_clock.specs.Clock.{step_of, taken_of, moved_of, unrested, returned}
use Rattle.evaluation.specs.Walk.{drive_to}
use Rattle.evaluation.specs.Limits.{limits_at, allow_of}
use Rattle.evaluation.specs.Verdict.{held_to, mends, or_home, verdict_of, verdict_from}
use Rattle.evaluation.specs.Feasible.{route_feasible, route_eval, cost_of, effective_cost}
use Rattle.evaluation.specs.Checks.{some_windowed, has_soft_windows}
use Rattle.constructive.specs.Outcome.{Round, Outcome, chains}
use Rattle.constructive.specs.Load.{load_of}
use Rattle.fleet.specs.Cheapest.{judge_at, places_from, takes, in_round, insertion_from, pick_from}
use Rattle.fleet.specs.Limit.{least_from, victim_of, put_in, refit, refit_on, drop_round, limit_on, limit_routes}

-- f64 fields: 100 and 1000
abbrev hundred : ℕ
hundred = 0x4059_0000_0000_0000

abbrev thousand : ℕ
thousand = 0x408f_4000_0000_0000

-- rounds of the only vehicle
abbrev by : List (List ℕ) → List Round
by [] = []
by (stops ∷ rest) = record { vehicle = 0; stops = stops } ∷ by rest

abbrev outcome : List (List ℕ) → List ℕ → Outcome
outcome rounds aside = record { rounds = by rounds; aside = aside }

pub record Rows : Type 0 where
  -- of equal rounds the first goes; before stop 2 stop 1 costs 4, as after it
  pub joined : limit_routes (sheet_a 1) 1 (outcome ((1 ∷ []) ∷ (2 ∷ []) ∷ []) []) ≡ outcome ((1 ∷ 2 ∷ []) ∷ []) []
  -- no round is left: stop 2 went before stop 1, and both come out ascending
  pub none_left : limit_routes (sheet_a 1) 0 (outcome ((2 ∷ []) ∷ (1 ∷ []) ∷ []) []) ≡ outcome [] (1 ∷ 2 ∷ [])
  -- a capacity of 1: no round takes stop 1
  pub full : limit_routes (sheet_carrying 1) 1 (outcome ((1 ∷ []) ∷ (2 ∷ []) ∷ []) []) ≡ outcome ((2 ∷ []) ∷ []) (1 ∷ [])
  -- a round without stops goes first
  pub empty : limit_routes (sheet_a 1) 2 (outcome ((1 ∷ []) ∷ (2 ∷ []) ∷ [] ∷ []) []) ≡ outcome ((1 ∷ []) ∷ (2 ∷ []) ∷ []) []
  -- stop 1 is set aside before, and stays so
  pub stays : limit_routes (sheet_a 1) 1 (outcome ((2 ∷ []) ∷ [] ∷ []) (1 ∷ [])) ≡ outcome ((2 ∷ []) ∷ []) (1 ∷ [])

pub cases : Rows
unfolding limit_routes limit_on drop_round refit_on refit put_in victim_of least_from pick_from insertion_from in_round takes places_from judge_at filtered chains count load_of has_soft_windows some_windowed route_feasible verdict_from verdict_of held_to mends or_home allow_of drive_to moved_of taken_of returned unrested step_of serve_of pass waiting_of lateness_of violated_of gate_at demand_of stop_of depot_field limits_at limit_at rest_after vehicle_of distance_of time_of rows_of vehicles_of times_of row_marks vehicle_marks marked leading depots_of number bytes f64_at add sub of_bits lt le
cases = record { joined = refl; none_left = refl; full = refl; empty = refl; stays = refl }

-- ---- relatives with another vehicle: its capacity, its marks, and its maximum of distance
abbrev carries : ℕ → ℕ → ℕ → List ℕ
carries capacity marks maximum = bytes 4 7 ++ (bytes 4 0 ++ (bytes 4 capacity ++ (bytes 4 marks ++ (bytes 8 f1 ++ (bytes 8 0 ++ (bytes 8 maximum ++ replicate 32 0))))))

-- stop 3 of demand 3 is 10 off stop 1 and 4 off stop 2, of demand 1 each; the vehicle carries 4
abbrev third : List ℕ
third =
    sheet_header 4 1 1
    ++ ((row_bytes 0 0 0 no_times ++ (row_bytes 0 1 0 no_times ++ (row_bytes 0 1 0 no_times ++ row_bytes 0 3 0 no_times)))
    ++ (carries 4 0 0 ++ f64s (0 ∷ f10 ∷ f10 ∷ f10 ∷ f10 ∷ 0 ∷ f10 ∷ f10 ∷ f10 ∷ f10 ∷ 0 ∷ f4 ∷ f10 ∷ f10 ∷ f4 ∷ 0 ∷ [])))

-- sheet A with a window of stop 1, until 10, and a penalty of 1
abbrev late : List ℕ
late = sheet_header 3 1 1 ++ ((row_bytes 0 0 0 no_times ++ (row_bytes 10 1 6 (0 ∷ 0 ∷ f10 ∷ f1 ∷ []) ++ row_bytes 0xffff_fff6 1 0 no_times)) ++ (vehicle_bytes 0 ++ table_bytes))

-- stop 1 is 100 off the depot, stop 2 between them, and the most is 120
abbrev far : ℕ → List ℕ → List ℕ
far marks times =
    sheet_header 3 1 1
    ++ ((row_bytes 0 0 0 no_times ++ (row_bytes 10 1 marks times ++ row_bytes 0xffff_fff6 1 0 no_times))
    ++ (carries 2 1 0x405e_0000_0000_0000 ++ f64s (0 ∷ hundred ∷ f10 ∷ hundred ∷ 0 ∷ f4 ∷ f10 ∷ f4 ∷ 0 ∷ [])))

pub record Relatives : Type 0 where
  -- "cheapest first": the round has room for one of stops 1 and 2, and stop 2 costs less
  pub cheapest : limit_routes third 1 (outcome ((1 ∷ 2 ∷ []) ∷ (3 ∷ []) ∷ []) []) ≡ outcome ((2 ∷ 3 ∷ []) ∷ []) (1 ∷ [])
  -- before stop 1, which is late then, stop 2 costs 8, and after it 4
  pub lateness : limit_routes late 1 (outcome ((2 ∷ []) ∷ (1 ∷ []) ∷ []) []) ≡ outcome ((1 ∷ 2 ∷ []) ∷ []) []
  -- stop 1 alone is over the most, and with stop 2 before it is not
  pub mended : limit_routes (far 0 no_times) 1 (outcome ((2 ∷ []) ∷ (1 ∷ []) ∷ []) []) ≡ outcome ((2 ∷ 1 ∷ []) ∷ []) []
  -- with a penalty on the sheet such a round takes no stop
  pub barred : limit_routes (far 6 (0 ∷ 0 ∷ thousand ∷ f1 ∷ [])) 1 (outcome ((2 ∷ []) ∷ (1 ∷ []) ∷ []) []) ≡ outcome ((1 ∷ []) ∷ []) (2 ∷ [])

pub relatives : Relatives
unfolding limit_routes limit_on drop_round refit_on refit put_in victim_of least_from pick_from insertion_from in_round takes places_from judge_at filtered chains count load_of has_soft_windows some_windowed effective_cost cost_of route_eval route_feasible verdict_from verdict_of held_to mends or_home allow_of drive_to moved_of taken_of returned unrested step_of serve_of pass waiting_of lateness_of violated_of fixed_in_distance gate_at demand_of stop_of depot_field limits_at limit_at rest_after vehicle_of distance_of time_of rows_of vehicles_of times_of row_marks vehicle_marks marked leading depots_of number bytes f64_at add sub mul div of_bits lt le
relatives = record { cheapest = refl; lateness = refl; mended = refl; barred = refl }
