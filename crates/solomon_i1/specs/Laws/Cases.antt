-- Document 01's rows 2, 9, 10 and 15, computed from the definitions: "2. Insertion 2, 1. [..] 9. Insertion, stop 1 due 10: round 1, 2. 10. Due 9: 1 aside, round 2. [..]
-- 15. Insertion there", with capacity 0: "both aside."
use Rattle.std.specs.Prelude.{◌≡◌, refl, ℕ, List, [], ◌∷◌, ◌++◌}
use Rattle.std.specs.Float.Ieee.{add, sub, mul, div, of_bits, lt, le}
use Rattle.wire.specs.Bytes.{le as number, bytes, f64_at}
use Rattle.sheet.specs.Fields.{rows_of, vehicles_of, times_of, row_marks, vehicle_marks, marked, depot_field}
use Rattle.sheet.specs.Values.{gate_at, demand_of, stop_of, limit_at, rest_after, vehicle_of, distance_of, time_of, fixed_in_distance}
use Rattle.sheet.specs.SheetA.{f1, f4, f10, f64s, sheet_header, row_bytes, no_times, vehicle_bytes, table_bytes, sheet_a, sheet_carrying}
use Rattle.evaluation_clock.specs.Window.{waiting_of, lateness_of, violated_of}
use Rattle.evaluation_clock.specs.Serve.{pass, serve_of}
use Rattle.evaluation_clock.specs.Clock.{step_of as served, taken_of, moved_of, unrested, returned}
use Rattle.evaluation.specs.Walk.{drive_to}
use Rattle.evaluation.specs.Limits.{limits_at, allow_of}
use Rattle.evaluation.specs.Verdict.{held_to, mends, or_home, verdict_of, verdict_from}
use Rattle.evaluation.specs.Feasible.{route_feasible, route_eval, cost_of, effective_cost}
use Rattle.evaluation.specs.Checks.{some_windowed, has_soft_windows}
use Rattle.constructive.specs.Outcome.{Outcome}
use Rattle.constructive.specs.Load.{load_of}
use Rattle.constructive.specs.Terms.{terms_of}
use Rattle.insertion.specs.Place.{judge, try_places}
use Rattle.solomon_i1_judging.specs.Choice.{try_stops}
use Rattle.solomon_i1.specs.Insertion.{farthest_from, grow, grow_on, seed_step, plan_on, solomon_i1}

-- sheet A with a due time of stop 1
abbrev pub due : ℕ → List ℕ
due end = sheet_header 3 1 1 ++ ((row_bytes 0 0 0 no_times ++ (row_bytes 10 1 2 (0 ∷ 0 ∷ end ∷ 0 ∷ []) ++ row_bytes 0xffff_fff6 1 0 no_times)) ++ (vehicle_bytes 0 ++ table_bytes))

abbrev planned : List ℕ → Outcome
planned s = solomon_i1 s 0 0 (1 ∷ 2 ∷ [])

-- one round of the only vehicle
abbrev rounded : List ℕ → List ℕ → Outcome
rounded stops aside = record { rounds = record { vehicle = 0; stops = stops } ∷ []; aside = aside }

pub record Rows : Type 0 where
  pub row2 : planned (sheet_a 1) ≡ rounded (2 ∷ 1 ∷ []) []
  pub row9 : planned (due f10) ≡ rounded (1 ∷ 2 ∷ []) []
  pub row10 : planned (due 0x4022_0000_0000_0000) ≡ rounded (2 ∷ []) (1 ∷ [])
  pub row15 : planned (sheet_carrying 0) ≡ record { rounds = []; aside = 1 ∷ 2 ∷ [] }

pub cases : Rows
unfolding solomon_i1 plan_on seed_step grow_on grow try_stops try_places judge farthest_from terms_of load_of has_soft_windows some_windowed route_feasible verdict_from verdict_of held_to mends or_home allow_of drive_to moved_of taken_of returned unrested served serve_of pass waiting_of lateness_of violated_of gate_at demand_of stop_of depot_field limits_at limit_at rest_after vehicle_of distance_of time_of rows_of vehicles_of times_of row_marks vehicle_marks marked number bytes f64_at add sub of_bits lt le
cases = record { row2 = refl; row9 = refl; row10 = refl; row15 = refl }

-- ---- the soft rules, as the Rust answers: sheet A with a penalty of 1 after stop 1's due time 10, and a distance between stops 1 and 2
abbrev soft : ℕ → List ℕ
soft between =
    sheet_header 3 1 1
    ++ ((row_bytes 0 0 0 no_times ++ (row_bytes 10 1 6 (0 ∷ 0 ∷ f10 ∷ f1 ∷ []) ++ row_bytes 0xffff_fff6 1 0 no_times))
    ++ (vehicle_bytes 0 ++ f64s (0 ∷ f10 ∷ f10 ∷ f10 ∷ 0 ∷ between ∷ f10 ∷ between ∷ 0 ∷ [])))

pub record Softly : Type 0 where
  -- at 4: stop 2 adds 8 before stop 1, which is late then, and 4 after it
  pub late : planned (soft f4) ≡ rounded (1 ∷ 2 ∷ []) []
  -- at 20: it adds as much as it costs alone
  pub dear : planned (soft 0x4034_0000_0000_0000) ≡ record { rounds = record { vehicle = 0; stops = 1 ∷ [] } ∷ record { vehicle = 0; stops = 2 ∷ [] } ∷ []; aside = [] }
  -- at 19: it adds less than it costs alone
  pub cheap : planned (soft 0x4033_0000_0000_0000) ≡ rounded (1 ∷ 2 ∷ []) []

pub softly : Softly
unfolding solomon_i1 plan_on seed_step grow_on grow try_stops try_places judge farthest_from terms_of load_of has_soft_windows some_windowed effective_cost cost_of route_eval route_feasible verdict_from verdict_of held_to mends or_home allow_of drive_to moved_of taken_of returned unrested served serve_of pass waiting_of lateness_of violated_of fixed_in_distance gate_at demand_of stop_of depot_field limits_at limit_at rest_after vehicle_of distance_of time_of rows_of vehicles_of times_of row_marks vehicle_marks marked number bytes f64_at add sub mul div of_bits lt le
softly = record { late = refl; dear = refl; cheap = refl }
