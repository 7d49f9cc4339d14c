-- The limiter's examples of document 01's table "Turned back", computed from the definitions: one theorem over a table.
use Rattle.std.specs.Prelude.{ℕ, ◌≡◌, List, [], ◌∷◌, ◌++◌, replicate}
use Rattle.wire.specs.Bytes.{bytes}
use Rattle.sheet.specs.SheetA.{f10, sheet_header, row_bytes, no_times, stop_rows, vehicle_bytes, table_bytes, sheet_a, sheet_carrying}
use Rattle.solomon_i1.specs.Laws.Cases.{due}
use Rattle.planner_limiting.specs.Limiting.{limit_refusal}
use Rattle.planner_cases.specs.Table.{plan_header, round_record, unused_rounds, depot_record, aside_record, one_and_two, two_alone, both_aside}

-- round 1, 2 of which no figure is stated, with a reason on both stops, which no planner writes
abbrev pub reason_on_round : ℕ → List ℕ
reason_on_round reason = plan_header 1 0 0 ++ (round_record 0 1 0 ++ (unused_rounds 2 ++ (depot_record ++ (aside_record 2 reason ++ aside_record 0 reason))))

-- a plan of so many rounds: the first is vehicle 7's from stop 1 on, with what stops 1 and 2 link to
abbrev pub plan_with : ℕ → ℕ → ℕ → List ℕ
plan_with rounds next₁ next₂ =
    bytes 2 rounds ++ (replicate 14 0 ++ (bytes 4 7 ++ (replicate 4 0 ++ (bytes 2 1 ++ (replicate 46 0 ++ (replicate 112 0
    ++ (replicate 24 0 ++ (bytes 2 next₁ ++ (replicate 22 0 ++ (bytes 2 next₂ ++ replicate 22 0))))))))))

pub record LimitCase : Type 0 where
  pub sheet : List ℕ
  pub plan : List ℕ
  pub room : ℕ
  pub answer : ℕ

abbrev pub LimitRight : List LimitCase → Type 0
LimitRight [] = Unit {0}
LimitRight (c ∷ cs) = (limit_refusal c.sheet c.plan c.room ≡ c.answer) × LimitRight cs

abbrev pub limit_cases : List LimitCase
limit_cases =
    record { sheet = sheet_a 1; plan = plan_with 1 2 0; room = 256; answer = 0 }
    -- "sheet or a plan buffer not of its exact length": the plan in, the plan out
    ∷ record { sheet = sheet_a 1; plan = plan_with 1 2 0 ++ (0 ∷ []); room = 256; answer = 4 }
    ∷ record { sheet = sheet_a 1; plan = plan_with 1 2 0; room = 255; answer = 4 }
    -- 8 as for the planner, before the plan in is read
    ∷ record { sheet = sheet_header 3 0 1 ++ (stop_rows ++ table_bytes); plan = plan_with 1 2 2; room = 256; answer = 8 }
    -- "2 depot rows"
    ∷ record { sheet = sheet_header 3 1 2 ++ (row_bytes 0 0 1 no_times ++ (row_bytes 10 1 1 no_times ++ (row_bytes 0xffff_fff6 1 0 no_times ++ (vehicle_bytes 0 ++ table_bytes)))); plan = plan_with 1 2 2; room = 256; answer = 9 }
    -- "next of 2 is 2"
    ∷ record { sheet = sheet_a 1; plan = plan_with 1 2 2; room = 256; answer = 10 }
    -- "a link to no stop"; a stop in no chain; "over `rows` rounds"
    ∷ record { sheet = sheet_a 1; plan = plan_with 1 2 3; room = 256; answer = 10 }
    ∷ record { sheet = sheet_a 1; plan = plan_with 1 0 0; room = 256; answer = 10 }
    ∷ record { sheet = sheet_a 1; plan = plan_with 4 2 0; room = 256; answer = 10 }
    -- "unknown id": the second round's is 0
    ∷ record { sheet = sheet_a 1; plan = plan_with 2 2 0; room = 256; answer = 10 }
    -- the plans in that wrong plans out are held against
    ∷ record { sheet = sheet_a 1; plan = one_and_two; room = 256; answer = 0 }
    ∷ record { sheet = sheet_carrying 1; plan = one_and_two; room = 256; answer = 0 }
    ∷ record { sheet = due f10; plan = one_and_two; room = 256; answer = 0 }
    ∷ record { sheet = sheet_a 1; plan = two_alone 0; room = 256; answer = 0 }
    ∷ record { sheet = sheet_a 1; plan = both_aside 0; room = 256; answer = 0 }
    -- a reason of 8 and one above it, on the chain of the stops set aside; on that of a round it is not read
    ∷ record { sheet = sheet_a 1; plan = both_aside 8; room = 256; answer = 0 }
    ∷ record { sheet = sheet_a 1; plan = both_aside 9; room = 256; answer = 10 }
    ∷ record { sheet = sheet_a 1; plan = reason_on_round 9; room = 256; answer = 0 }
    ∷ []
