-- docs/SCOPE.md#rounds-dealt-to-crews. Examples of request Seven, computed from the definitions: one theorem over a table.
use Rattle.std.specs.Prelude.{ℕ, ◌≡◌, List, [], ◌∷◌, ◌++◌, length}
use Rattle.sheet.specs.SheetA.{f1, f4, f10, f64s, sheet_header, stop_rows, vehicle_bytes, sheet_a}
use Rattle.crews_deal.specs.Rounds.{plan_durations, deal_of, deal_refusal}
use Rattle.planner_cases.specs.LimitRefusals.{plan_with}
use Rattle.planner_cases.specs.Table.{plan_header, round_record, unused_rounds, visit_record, depot_record, one_two, one_and_two, both_aside}
use Rattle.planner_cases.specs.Bills.{even_rested, two_depots, from_depot_one, empty_first, turned_window, without_vehicles}

-- ---- numbers as f64
abbrev pub half : ℕ
half = 0x3fe0_0000_0000_0000

abbrev pub two : ℕ
two = 0x4000_0000_0000_0000

abbrev pub ten_quarter : ℕ
ten_quarter = 0x4024_8000_0000_0000

abbrev pub ten_half : ℕ
ten_half = 0x4025_0000_0000_0000

-- ---- sheets and plans
-- sheet A by the depot's diagonal and its legs to stops 1 and 2: an empty round takes `idle`, rounds 1 and 2 twice their leg
abbrev pub legs_sheet : ℕ → ℕ → ℕ → List ℕ
legs_sheet idle leg₁ leg₂ = sheet_header 3 1 0 ++ (stop_rows ++ (vehicle_bytes 0 ++ f64s (idle ∷ leg₁ ∷ leg₂ ∷ leg₁ ∷ 0 ∷ f4 ∷ leg₂ ∷ f4 ∷ 0 ∷ [])))

-- three rounds by their first stops, of which no figure is stated
abbrev pub three_rounds : ℕ → ℕ → ℕ → List ℕ
three_rounds a b c = plan_header 3 0 0 ++ (round_record 0 a 0 ++ (round_record 0 b 0 ++ (round_record 0 c 0 ++ (depot_record ++ (visit_record 0 1 0 ++ visit_record 0 1 0)))))

-- ---- the table
-- a sheet, its plan and a number of crews, with the durations in whole units and the deal; or with a deal of so many bytes, and the refusal
pub data DealRow : Type 0 where
  deal_row : List ℕ → List ℕ → ℕ → List ℕ → List ℕ → DealRow
  refused_row : List ℕ → List ℕ → ℕ → ℕ → ℕ → DealRow

abbrev pub DealHolds : DealRow → Type 0
DealHolds (deal_row s plan w durations deal) = (deal_refusal s plan w (length deal) ≡ 0) × ((plan_durations s plan ≡ durations) × (deal_of s plan w ≡ deal))
DealHolds (refused_row s plan w m answer) = deal_refusal s plan w m ≡ answer

abbrev pub deal_rows : List DealRow
deal_rows =
    -- one round, and one crew; two rounds of 20 each: "lower round and lower crew first when equal"
    deal_row (sheet_a 0) one_two 1 (24 ∷ []) (1 ∷ [])
    ∷ deal_row (sheet_a 0) one_and_two 1 (20 ∷ 20 ∷ []) (1 ∷ 1 ∷ [])
    ∷ deal_row (sheet_a 0) one_and_two 2 (20 ∷ 20 ∷ []) (1 ∷ 2 ∷ [])
    -- more crews than rounds
    ∷ deal_row (sheet_a 0) one_and_two 8 (20 ∷ 20 ∷ []) (1 ∷ 2 ∷ [])
    -- "in whole units, rounded up": 20 and 20.5, so that the second is the longer; 20.5 and 21, which are equal
    ∷ deal_row (legs_sheet 0 f10 ten_quarter) one_and_two 2 (20 ∷ 21 ∷ []) (2 ∷ 1 ∷ [])
    ∷ deal_row (legs_sheet 0 ten_quarter ten_half) one_and_two 2 (21 ∷ 21 ∷ []) (1 ∷ 2 ∷ [])
    -- the least f64 above 20 is a unit more
    ∷ deal_row (legs_sheet 0 f10 0x4024_0000_0000_0001) one_and_two 2 (20 ∷ 21 ∷ []) (2 ∷ 1 ∷ [])
    -- with a rest of 5 before each stop, and legs of 450
    ∷ deal_row even_rested one_and_two 2 (905 ∷ 905 ∷ []) (1 ∷ 2 ∷ [])
    -- an empty round of 0, and one of 1, which takes the diagonal's time
    ∷ deal_row (sheet_a 0) empty_first 2 (0 ∷ 24 ∷ []) (2 ∷ 1 ∷ [])
    ∷ deal_row (legs_sheet f1 half f1) (three_rounds 0 1 2) 2 (1 ∷ 1 ∷ 2 ∷ []) (2 ∷ 2 ∷ 1 ∷ [])
    ∷ deal_row (legs_sheet f1 two two) (three_rounds 1 0 2) 2 (4 ∷ 1 ∷ 4 ∷ []) (1 ∷ 1 ∷ 2 ∷ [])
    -- no round
    ∷ deal_row (sheet_a 0) (both_aside 0) 3 [] []
    -- "several depots are no 9": 4,000 from the vehicle's own
    ∷ deal_row two_depots from_depot_one 2 (4000 ∷ []) (1 ∷ [])
    -- "a deal of another length is a 4"
    ∷ refused_row (sheet_a 0) one_two 1 2 4
    ∷ refused_row (sheet_a 0) one_two 1 0 4
    -- 3 is told before it, and 5 and 8 after it
    ∷ refused_row (sheet_a 5) one_two 1 2 3
    ∷ refused_row turned_window one_two 1 2 4
    ∷ refused_row turned_window one_two 1 1 5
    ∷ refused_row without_vehicles one_two 1 2 4
    -- 8 before 10: "next of 2 is 2"
    ∷ refused_row without_vehicles (plan_with 1 2 2) 1 1 8
    ∷ refused_row (sheet_a 0) (plan_with 1 2 2) 1 1 10
    -- more rounds than rows, in a deal of the length that they ask for and in another
    ∷ refused_row (sheet_a 0) (plan_with 4 2 0) 1 4 10
    ∷ refused_row (sheet_a 0) (plan_with 4 2 0) 1 1 4
    -- "14 for a crew count of 0 or above 8, last", where there is no round too
    ∷ refused_row (sheet_a 0) one_two 0 1 14
    ∷ refused_row (sheet_a 0) one_two 9 1 14
    ∷ refused_row (sheet_a 0) one_two 257 1 14
    ∷ refused_row (sheet_a 0) (both_aside 0) 0 0 14
    ∷ refused_row (sheet_a 0) (plan_with 1 2 2) 0 1 10
    ∷ refused_row (sheet_a 0) one_two 0 2 4
    ∷ []
