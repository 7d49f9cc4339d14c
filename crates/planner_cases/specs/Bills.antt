-- docs/SCOPE.md#the-haulage-tariff. Examples of request Five, computed from the definitions: one theorem over a table.
use Rattle.std.specs.Prelude.{ℕ, ◌*◌, ◌≡◌, List, [], ◌∷◌, ◌++◌, length}
use Rattle.std.specs.Float.{binary64}
use Rattle.std.specs.Float.Ieee.{of_bits}
use Rattle.sheet.specs.SheetA.{f1, f3, f4, f10, f64s, sheet_header, row_bytes, no_times, stop_rows, vehicle_bytes, table_bytes, sheet_a}
use Rattle.clarke_wright_savings.specs.Laws.Cases.{within}
use Rattle.tariff.specs.declared.Rates.{Rates}
use Rattle.tariff.specs.Units.{begun_of}
use Rattle.tariff_bill.specs.Bill.{bill_of, bill_refusal}
use Rattle.planner_cases.specs.LimitRefusals.{plan_with}
use Rattle.planner_cases.specs.Table.{fourteen, nineteen, twenty_four, rest_vehicle, home_vehicle, plan_header, round_record, unused_rounds, visit_record, depot_record, aside_record, one_two, one_and_two, both_aside}

-- ---- numbers as f64
abbrev pub four_fifty : ℕ
four_fifty = 0x407c_2000_0000_0000

abbrev pub five_hundred : ℕ
five_hundred = 0x407f_4000_0000_0000

abbrev pub nine_hundred : ℕ
nine_hundred = 0x408c_2000_0000_0000

abbrev pub thousand : ℕ
thousand = 0x408f_4000_0000_0000

abbrev pub thousand_one : ℕ
thousand_one = 0x408f_4800_0000_0000

abbrev pub two_thousand : ℕ
two_thousand = 0x409f_4000_0000_0000

-- ---- sheets and plans
-- sheet A with legs of one length, so that rounds 1 and 2 are twice as long
abbrev pub even_table : ℕ → List ℕ
even_table leg = f64s (0 ∷ leg ∷ leg ∷ leg ∷ 0 ∷ leg ∷ leg ∷ leg ∷ 0 ∷ [])

abbrev pub even_sheet : ℕ → List ℕ
even_sheet leg = sheet_header 3 1 0 ++ (stop_rows ++ (vehicle_bytes 0 ++ even_table leg))

-- legs of 450 and a rest of 5 at 450, which is before a lone stop
abbrev pub even_rested : List ℕ
even_rested = sheet_header 3 1 0 ++ (stop_rows ++ (rest_vehicle four_fifty four_fifty ++ even_table four_fifty))

-- legs of 450, each stop due at 450, and a rest of 5 from 450 to 900, which is then at home
abbrev pub even_home : List ℕ
even_home =
    sheet_header 3 1 0
    ++ ((row_bytes 0 0 0 no_times ++ (row_bytes 10 1 2 (0 ∷ 0 ∷ four_fifty ∷ 0 ∷ []) ++ row_bytes 0xffff_fff6 1 2 (0 ∷ 0 ∷ four_fifty ∷ 0 ∷ [])))
    ++ (home_vehicle four_fifty nine_hundred ++ even_table four_fifty))

-- depots 0 and 1 and stop 2, which is 500 from depot 0 and 2,000 from depot 1; vehicle 7 is depot 1's
abbrev pub two_depots : List ℕ
two_depots =
    sheet_header 3 1 0
    ++ (row_bytes 0 0 1 no_times
    ++ (row_bytes 10 0 1 no_times
    ++ (row_bytes 0xffff_fff6 1 0 no_times ++ (vehicle_bytes 1 ++ f64s (0 ∷ f10 ∷ five_hundred ∷ f10 ∷ 0 ∷ two_thousand ∷ five_hundred ∷ two_thousand ∷ 0 ∷ [])))))

-- its stop on a round, of which no figure is stated
abbrev pub from_depot_one : List ℕ
from_depot_one = plan_header 1 0 0 ++ (round_record 1 2 0 ++ (unused_rounds 2 ++ (depot_record ++ (depot_record ++ visit_record 0 1 0))))

-- an empty round of vehicle 7, and round 1, 2
abbrev pub empty_first : List ℕ
empty_first = plan_header 2 0 twenty_four ++ (round_record 0 0 0 ++ (round_record 2 1 twenty_four ++ (unused_rounds 1 ++ (depot_record ++ (visit_record 2 1 f10 ++ visit_record 0 2 fourteen)))))

-- an empty round, and both stops aside
abbrev pub empty_alone : List ℕ
empty_alone = plan_header 1 1 0 ++ (round_record 0 0 0 ++ (unused_rounds 2 ++ (depot_record ++ (aside_record 2 0 ++ aside_record 0 0))))

-- sheet A, stop 1 ready at 4 and due at 3
abbrev pub turned_window : List ℕ
turned_window = sheet_header 3 1 0 ++ (row_bytes 0 0 0 no_times ++ (row_bytes 10 1 2 (0 ∷ f4 ∷ f3 ∷ 0 ∷ []) ++ (row_bytes 0xffff_fff6 1 0 no_times ++ (vehicle_bytes 0 ++ table_bytes))))

abbrev pub without_vehicles : List ℕ
without_vehicles = sheet_header 3 0 0 ++ (stop_rows ++ table_bytes)

-- ---- rates
-- 7 for distance and 11 for duration, and a least charge
abbrev pub at_least : ℕ → Rates
at_least least = record { distance = 7; duration = 11; least = least }

-- each its own
abbrev pub rates_of : ℕ → ℕ → ℕ → Rates
rates_of distance duration least = record { distance = distance; duration = duration; least = least }

-- ---- the table
-- a sheet, its plan and rates, and the numbers of the bill; the same with a bill of so many bytes, and the refusal; or a unit, a figure by its bit pattern, and the units begun
pub data BillRow : Type 0 where
  bill_row : List ℕ → List ℕ → Rates → List ℕ → BillRow
  refusal_row : List ℕ → List ℕ → Rates → ℕ → ℕ → BillRow
  unit_row : ℕ → ℕ → ℕ → BillRow

abbrev pub BillHolds : BillRow → Type 0
BillHolds (bill_row s plan t numbers) = (bill_refusal s plan t (8 * length numbers) ≡ 0) × (bill_of s plan t ≡ f64s numbers)
BillHolds (refusal_row s plan t m answer) = bill_refusal s plan t m ≡ answer
BillHolds (unit_row unit figure answer) = begun_of unit (of_bits binary64 figure) ≡ answer

abbrev pub bill_rows : List BillRow
bill_rows =
    -- "a rate per begun 1,000 units of distance plus a rate per begun 900 of duration, or a least charge if that is more": one round of 24 and 24, its charge and the sum
    bill_row (sheet_a 0) one_two (at_least 0) (18 ∷ 18 ∷ [])
    ∷ bill_row (sheet_a 0) one_two (at_least 18) (18 ∷ 18 ∷ [])
    ∷ bill_row (sheet_a 0) one_two (at_least 100) (100 ∷ 100 ∷ [])
    -- two rounds of 20 each: the least charge is each round's
    ∷ bill_row (sheet_a 0) one_and_two (at_least 0) (18 ∷ 18 ∷ 36 ∷ [])
    ∷ bill_row (sheet_a 0) one_and_two (at_least 100) (100 ∷ 100 ∷ 200 ∷ [])
    -- two of 900 each: a unit of either; with a rest of 5 before the stop, and one at home, two of duration
    ∷ bill_row (even_sheet four_fifty) one_and_two (at_least 0) (18 ∷ 18 ∷ 36 ∷ [])
    ∷ bill_row even_rested one_and_two (at_least 0) (29 ∷ 29 ∷ 58 ∷ [])
    ∷ bill_row even_home one_and_two (at_least 0) (29 ∷ 29 ∷ 58 ∷ [])
    -- two of 1,000 each: a unit of distance, and two of duration
    ∷ bill_row (even_sheet five_hundred) one_and_two (at_least 0) (29 ∷ 29 ∷ 58 ∷ [])
    -- a round over its vehicle's greatest distance
    ∷ bill_row (within nineteen) one_two (at_least 0) (18 ∷ 18 ∷ [])
    -- "An empty round costs 0."
    ∷ bill_row (sheet_a 0) empty_first (at_least 100) (0 ∷ 100 ∷ 100 ∷ [])
    ∷ bill_row (sheet_a 0) empty_alone (at_least 100) (0 ∷ 0 ∷ [])
    -- no round
    ∷ bill_row (sheet_a 0) (both_aside 0) (at_least 100) (0 ∷ [])
    -- "several depots are no 9 here": 4,000 from the vehicle's own, and "figures walked anew from the chains", not those that the plan states
    ∷ bill_row two_depots from_depot_one (at_least 0) (83 ∷ 83 ∷ [])
    -- rates and a least charge of 1,000,000
    ∷ bill_row (sheet_a 0) one_two (rates_of 1000000 1000000 1000000) (2000000 ∷ 2000000 ∷ [])
    -- "a bill buffer of another length is a 4"
    ∷ refusal_row (sheet_a 0) one_two (at_least 0) 24 4
    ∷ refusal_row (sheet_a 0) one_two (at_least 0) 8 4
    ∷ refusal_row (sheet_a 0) one_two (at_least 0) 0 4
    -- 3 is told before it, and 5 and 8 after it
    ∷ refusal_row (sheet_a 5) one_two (at_least 0) 24 3
    ∷ refusal_row turned_window one_two (at_least 0) 24 4
    ∷ refusal_row turned_window one_two (at_least 0) 16 5
    ∷ refusal_row without_vehicles one_two (at_least 0) 24 4
    -- 8 before 10: "next of 2 is 2"
    ∷ refusal_row without_vehicles (plan_with 1 2 2) (at_least 0) 16 8
    ∷ refusal_row (sheet_a 0) (plan_with 1 2 2) (at_least 0) 16 10
    -- more rounds than rows, in a bill of the length that they ask for and in another
    ∷ refusal_row (sheet_a 0) (plan_with 4 2 0) (at_least 0) 40 10
    ∷ refusal_row (sheet_a 0) (plan_with 4 2 0) (at_least 0) 16 4
    -- "13 for a rate or least charge above 1,000,000, after all checks on sheet and plan"
    ∷ refusal_row (sheet_a 0) one_two (rates_of 1000001 0 0) 16 13
    ∷ refusal_row (sheet_a 0) one_two (rates_of 0 1000001 0) 16 13
    ∷ refusal_row (sheet_a 0) one_two (rates_of 0 0 1000001) 16 13
    ∷ refusal_row (sheet_a 0) (plan_with 1 2 2) (rates_of 1000001 0 0) 16 10
    ∷ refusal_row (sheet_a 0) one_two (rates_of 1000001 0 0) 24 4
    -- "the least whole number that, times 1,000 or 900, is not below the figure": of 0, the least f64 above it, 1, the f64 below 1,000, 1,000, the one above it, and 1,001
    ∷ unit_row 1000 0 0
    ∷ unit_row 1000 1 1
    ∷ unit_row 1000 f1 1
    ∷ unit_row 1000 0x408f_3fff_ffff_ffff 1
    ∷ unit_row 1000 thousand 1
    ∷ unit_row 1000 0x408f_4000_0000_0001 2
    ∷ unit_row 1000 thousand_one 2
    -- of 24, the f64 below 900, 900, and the one above it
    ∷ unit_row 900 twenty_four 1
    ∷ unit_row 900 0x408c_1fff_ffff_ffff 1
    ∷ unit_row 900 nine_hundred 1
    ∷ unit_row 900 0x408c_2000_0000_0001 2
    ∷ []
