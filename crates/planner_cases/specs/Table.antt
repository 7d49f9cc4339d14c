-- docs/SCOPE.md#sheet-a-and-its-relatives. Document 01, "Sheet A and its relatives": "Proved of the definitions, as a table that one theorem covers".
use Rattle.std.specs.Prelude.{ℕ, ◌*◌, ◌≡◌, List, [], ◌∷◌, ◌++◌, length, replicate, Option, Some, None}
use Rattle.std.specs.Float.{binary64}
use Rattle.std.specs.Float.Ieee.{to_bits}
use Rattle.wire.specs.Bytes.{bytes}
use Rattle.sheet.specs.Fields.{vehicle_at}
use Rattle.sheet.specs.Values.{rest_after}
use Rattle.sheet.specs.SheetA.{f1, f10, f64s, sheet_header, row_bytes, no_times, stop_rows, vehicle_bytes, table_bytes, sheet_a, sheet_carrying}
use Rattle.evaluation_clock.specs.Serve.{rest_place}
use Rattle.evaluation.specs.Walk.{scheduled_of}
use Rattle.clarke_wright_savings.specs.Laws.Cases.{relative, within}
use Rattle.solomon_i1.specs.Laws.Cases.{due}
use Rattle.planner.specs.Answer.{planned, answer_of}
use Rattle.evaluation_clock.specs.declared.clock.Schedule.{Schedule}

-- ---- numbers as f64
abbrev pub five : ℕ
five = 0x4014_0000_0000_0000

abbrev pub nine : ℕ
nine = 0x4022_0000_0000_0000

abbrev pub twelve : ℕ
twelve = 0x4028_0000_0000_0000

abbrev pub fourteen : ℕ
fourteen = 0x402c_0000_0000_0000

abbrev pub seventeen : ℕ
seventeen = 0x4031_0000_0000_0000

abbrev pub nineteen : ℕ
nineteen = 0x4033_0000_0000_0000

abbrev pub twenty : ℕ
twenty = 0x4034_0000_0000_0000

abbrev pub twenty_one : ℕ
twenty_one = 0x4035_0000_0000_0000

abbrev pub twenty_three : ℕ
twenty_three = 0x4037_0000_0000_0000

abbrev pub twenty_four : ℕ
twenty_four = 0x4038_0000_0000_0000

abbrev pub twenty_nine : ℕ
twenty_nine = 0x403d_0000_0000_0000

abbrev pub thirty_one : ℕ
thirty_one = 0x403f_0000_0000_0000

abbrev pub forty : ℕ
forty = 0x4044_0000_0000_0000

-- a plan without rounds costs -0, the sum of nothing
abbrev pub no_cost : ℕ
no_cost = 0x8000_0000_0000_0000

-- ---- plans of three rows
-- the header: rounds, first set-aside stop, cost
abbrev pub plan_header : ℕ → ℕ → ℕ → List ℕ
plan_header rounds aside cost = bytes 2 rounds ++ (bytes 2 aside ++ (bytes 2 3 ++ (bytes 2 0 ++ bytes 8 cost)))

-- a round of vehicle 7: load, first stop, rest place, distance, duration, rest start
abbrev pub rested_record : ℕ → ℕ → ℕ → ℕ → ℕ → ℕ → List ℕ
rested_record load first place distance duration start =
    bytes 4 7 ++ (bytes 4 load ++ (bytes 2 first ++ (bytes 2 place ++ (bytes 4 0 ++ (bytes 8 distance ++ (bytes 8 duration ++ (replicate 16 0 ++ bytes 8 start)))))))

-- one without rest, whose distance is its duration: load, first stop, distance
abbrev pub round_record : ℕ → ℕ → ℕ → List ℕ
round_record load first distance = rested_record load first 0 distance distance 0

abbrev pub unused_rounds : ℕ → List ℕ
unused_rounds n = replicate (56 * n) 0

-- a stop: next, load after, arrival, departure
abbrev pub left_record : ℕ → ℕ → ℕ → ℕ → List ℕ
left_record next load arrival departure = bytes 2 next ++ (bytes 2 0 ++ (bytes 4 load ++ (bytes 8 arrival ++ bytes 8 departure)))

-- one that is left as it is reached: next, load after, arrival
abbrev pub visit_record : ℕ → ℕ → ℕ → List ℕ
visit_record next load time = left_record next load time time

-- the depot's row
abbrev pub depot_record : List ℕ
depot_record = replicate 24 0

-- a stop set aside: next, and the reason
abbrev pub aside_record : ℕ → ℕ → List ℕ
aside_record next reason = bytes 2 next ++ (bytes 2 reason ++ replicate 20 0)

-- round 1, 2
abbrev pub one_two : List ℕ
one_two = plan_header 1 0 twenty_four ++ (round_record 2 1 twenty_four ++ (unused_rounds 2 ++ (depot_record ++ (visit_record 2 1 f10 ++ visit_record 0 2 fourteen))))

-- round 1, 2 with the rest before stop 1, from 12 to 17
abbrev pub one_two_rested : List ℕ
one_two_rested = plan_header 1 0 twenty_four ++ (rested_record 2 1 1 twenty_four thirty_one twelve ++ (unused_rounds 2 ++ (depot_record ++ (left_record 2 1 f10 seventeen ++ visit_record 0 2 twenty_one))))

-- round 1, 2 with the rest at home, from 24 to 29: the visits of the walk without it
abbrev pub one_two_home : List ℕ
one_two_home = plan_header 1 0 twenty_four ++ (rested_record 2 1 3 twenty_four twenty_nine twenty_four ++ (unused_rounds 2 ++ (depot_record ++ (visit_record 2 1 f10 ++ visit_record 0 2 fourteen))))

-- round 2, 1
abbrev pub two_one : List ℕ
two_one = plan_header 1 0 twenty_four ++ (round_record 2 2 twenty_four ++ (unused_rounds 2 ++ (depot_record ++ (visit_record 0 2 fourteen ++ visit_record 1 1 f10))))

-- rounds 1 and 2
abbrev pub one_and_two : List ℕ
one_and_two = plan_header 2 0 forty ++ (round_record 1 1 twenty ++ (round_record 1 2 twenty ++ (unused_rounds 1 ++ (depot_record ++ (visit_record 0 1 f10 ++ visit_record 0 1 f10)))))

-- 1 aside, round 2
abbrev pub two_alone : ℕ → List ℕ
two_alone reason = plan_header 1 1 twenty ++ (round_record 1 2 twenty ++ (unused_rounds 2 ++ (depot_record ++ (aside_record 0 reason ++ visit_record 0 1 f10))))

-- both aside, each with its reason
abbrev pub each_aside : ℕ → ℕ → List ℕ
each_aside reason₁ reason₂ = plan_header 0 1 no_cost ++ (unused_rounds 3 ++ (depot_record ++ (aside_record 2 reason₁ ++ aside_record 0 reason₂)))

-- with the same
abbrev pub both_aside : ℕ → List ℕ
both_aside reason = each_aside reason reason

-- ---- schedules
-- sheet A's vehicle with a rest of 5 that starts from `earliest` to `latest`
abbrev pub rest_vehicle : ℕ → ℕ → List ℕ
rest_vehicle earliest latest = bytes 4 7 ++ (bytes 4 0 ++ (bytes 4 2 ++ (bytes 4 4 ++ f64s (f1 ∷ 0 ∷ 0 ∷ 0 ∷ earliest ∷ latest ∷ five ∷ []))))

-- sheet A with a rest of 5 that starts at `time` and at no other time
abbrev pub sheet_at : ℕ → ℕ → List ℕ
sheet_at method time = sheet_header 3 1 method ++ (stop_rows ++ (rest_vehicle time time ++ table_bytes))

-- the rest's place and the duration, or nothing
abbrev schedule_told : Option Schedule → List ℕ
schedule_told (Some k) = rest_place k.rest ∷ to_bits binary64 k.duration ∷ []
schedule_told None = []

-- of round 1, 2
abbrev pub schedule_at : ℕ → List ℕ
schedule_at time = schedule_told (scheduled_of (sheet_at 0 time) 0 (rest_after (sheet_at 0 time) (vehicle_at (sheet_at 0 time) 0)) (1 ∷ 2 ∷ []))

-- ---- a depot that closes
-- sheet A with a window of its depot from 0 to `due`: method, marks, due and penalty
abbrev pub sheet_closing : ℕ → ℕ → ℕ → ℕ → List ℕ
sheet_closing method marks due penalty =
    sheet_header 3 1 method
    ++ (row_bytes 0 0 marks (0 ∷ 0 ∷ due ∷ penalty ∷ []) ++ (row_bytes 10 1 0 no_times ++ (row_bytes 0xffff_fff6 1 0 no_times ++ (vehicle_bytes 0 ++ table_bytes))))

-- the same by plain nearest neighbour, the vehicle with a rest of 5 that is not needed
abbrev pub closing_rested : ℕ → List ℕ
closing_rested due =
    sheet_header 3 1 2
    ++ (row_bytes 0 0 2 (0 ∷ 0 ∷ due ∷ 0 ∷ []) ++ (row_bytes 10 1 0 no_times ++ (row_bytes 0xffff_fff6 1 0 no_times ++ (rest_vehicle forty forty ++ table_bytes))))

-- ---- a rest at home
-- sheet A's vehicle with a rest of 5 that starts from `earliest` to `latest`, and may be taken at the depot on return
abbrev pub home_vehicle : ℕ → ℕ → List ℕ
home_vehicle earliest latest = bytes 4 7 ++ (bytes 4 0 ++ (bytes 4 2 ++ (bytes 4 12 ++ f64s (f1 ∷ 0 ∷ 0 ∷ 0 ∷ earliest ∷ latest ∷ five ∷ []))))

-- sheet A with it, by savings, at one time
abbrev pub home_at : ℕ → List ℕ
home_at time = sheet_header 3 1 0 ++ (stop_rows ++ (home_vehicle time time ++ table_bytes))

-- and with due times of both stops
abbrev pub home_between : ℕ → ℕ → ℕ → ℕ → List ℕ
home_between due₁ due₂ earliest latest =
    sheet_header 3 1 0
    ++ ((row_bytes 0 0 0 no_times ++ (row_bytes 10 1 2 (0 ∷ 0 ∷ due₁ ∷ 0 ∷ []) ++ row_bytes 0xffff_fff6 1 2 (0 ∷ 0 ∷ due₂ ∷ 0 ∷ [])))
    ++ (home_vehicle earliest latest ++ table_bytes))

-- ---- both maxima
-- sheet A by savings with a maximum distance and a maximum duration
abbrev pub within_both : ℕ → ℕ → List ℕ
within_both distance duration = sheet_header 3 1 0 ++ (stop_rows ++ (bytes 4 7 ++ (bytes 4 0 ++ (bytes 4 2 ++ (bytes 4 3 ++ (f64s (f1 ∷ 0 ∷ distance ∷ duration ∷ 0 ∷ 0 ∷ 0 ∷ []) ++ table_bytes))))))

-- ---- the table
-- a sheet and its plan, from bytes to bytes; or the time of a rest, and what round 1, 2 then is told
pub data TableRow : Type 0 where
  plan_row : List ℕ → List ℕ → TableRow
  rest_row : ℕ → List ℕ → TableRow

abbrev pub RowHolds : TableRow → Type 0
RowHolds (plan_row s plan) = answer_of s (length plan) ≡ planned plan
RowHolds (rest_row time answer) = schedule_at time ≡ answer

abbrev pub table_rows : List TableRow
table_rows =
    -- "1. Savings 1, 2. 2. Insertion 2, 1. 3. Nearest 1, 2. 4. `nn_tw` 1, 2. 5. Sweep 2, 1."
    plan_row (sheet_a 0) one_two
    ∷ plan_row (sheet_a 1) two_one
    ∷ plan_row (sheet_a 2) one_two
    ∷ plan_row (sheet_a 3) one_two
    ∷ plan_row (sheet_a 4) two_one
    -- "6. Savings, max distance 24: as 1. 7. At 23: rounds 1 and 2. 8. At 19: both aside."
    ∷ plan_row (within twenty_four) one_two
    ∷ plan_row (within twenty_three) one_and_two
    ∷ plan_row (within nineteen) (both_aside 5)
    -- "9. Insertion, stop 1 due 10: round 1, 2. 10. Due 9: 1 aside, round 2."
    ∷ plan_row (due f10) one_two
    ∷ plan_row (due nine) (two_alone 3)
    -- "11. Round 1, 2 with rest of 5, earliest and latest 12: rest before stop 1, duration 31. 12. Both 24: no rest. 13. Both 9: no schedule."
    ∷ rest_row twelve (1 ∷ thirty_one ∷ [])
    ∷ rest_row twenty_four (0 ∷ twenty_four ∷ [])
    ∷ rest_row nine []
    -- "14. Savings, capacity 0: rounds 1 and 2. 15. Insertion there: both aside."
    ∷ plan_row (relative 0 0 0) one_and_two
    ∷ plan_row (sheet_carrying 0) (both_aside 2)
    -- and row 11's sheet by savings, from sheet to plan
    ∷ plan_row (sheet_at 0 twelve) one_two_rested
    -- "trucks must be home by its due time". Savings, depot due 24: as 1. At 23: rounds 1 and 2. At 19: both aside.
    ∷ plan_row (sheet_closing 0 2 twenty_four 0) one_two
    ∷ plan_row (sheet_closing 0 2 twenty_three 0) one_and_two
    ∷ plan_row (sheet_closing 0 2 nineteen 0) (both_aside 6)
    -- "Plain nearest neighbour without a rest goes on ignoring it": due 19, as 3; with a rest, and by `nn_tw`, both aside
    ∷ plan_row (sheet_closing 2 2 nineteen 0) one_two
    ∷ plan_row (closing_rested nineteen) (both_aside 6)
    ∷ plan_row (sheet_closing 3 2 nineteen 0) (both_aside 6)
    -- insertion, due 23, and a depot with due 19 and penalty 1 by savings
    ∷ plan_row (sheet_closing 1 2 twenty_three 0) one_and_two
    ∷ plan_row (sheet_closing 0 6 nineteen f1) (both_aside 6)
    -- "Vehicle mark 8 allows it." Both 12: the rest before stop 1, as 11. Stops due 10 and 14, from 20 to 24: at home, from 24 to 29. Both 9: both aside.
    ∷ plan_row (home_at twelve) one_two_rested
    ∷ plan_row (home_between f10 fourteen twenty twenty_four) one_two_home
    ∷ plan_row (home_at nine) (both_aside 4)
    -- the reason is the first that holds: a lone round of 20 over both maxima is over the distance; over that of the duration alone
    ∷ plan_row (within_both nineteen nineteen) (both_aside 5)
    ∷ plan_row (within_both twenty nineteen) (both_aside 6)
    ∷ []
