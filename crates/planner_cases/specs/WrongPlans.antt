-- Plans that no planner and no limiter may write, and the sheets that they are held against beside those of the table.
use Rattle.std.specs.Prelude.{ℕ, ◌+◌, ◌≡◌, true, false, List, [], ◌∷◌, ◌++◌}
use Rattle.wire.specs.Bytes.{bytes, u32_at, u64_at}
use Rattle.sheet.specs.SheetA.{f1, f4, f10, f64s, sheet_header, row_bytes, no_times, stop_rows, table_bytes, sheet_a, sheet_carrying}
use Rattle.sheet.specs.Refusal.{refusal_of}
use Rattle.lawful.specs.Whole.{Whole}
use Rattle.lawful.specs.Lawful.{rested_at_home, failed, left, duration_n, lawful}
use Rattle.clarke_wright_savings.specs.Laws.Cases.{within}
use Rattle.solomon_i1.specs.Laws.Cases.{due}
use Rattle.plan.specs.Plan.{round_record_at}
use Rattle.planner_cases.specs.Table.{home_between, five, nine, twelve, fourteen, nineteen, twenty, twenty_three, twenty_four, forty, no_cost, plan_header, round_record, unused_rounds, visit_record, depot_record, aside_record, rest_vehicle, sheet_at}

abbrev pub fifteen : ℕ
fifteen = 0x402e_0000_0000_0000

abbrev pub forty_four : ℕ
forty_four = 0x4046_0000_0000_0000

-- ---- what a plan states of its round counted k, from 0
abbrev pub load_stated : List ℕ → ℕ → ℕ
load_stated plan k = u32_at plan (round_record_at k + 4)

abbrev pub distance_stated : List ℕ → ℕ → ℕ
distance_stated plan k = u64_at plan (round_record_at k + 16)

abbrev pub rest_start_stated : List ℕ → ℕ → ℕ
rest_start_stated plan k = u64_at plan (round_record_at k + 48)

-- ---- sheets
-- 10 to stop 1 and 5 home from it, 5 to stop 2 and 20 home from it, 4 between them; max distance 20.
-- Stop 2 cannot go alone, and fits before stop 1, which the seed's rule takes first.
abbrev pub bent_sheet : List ℕ
bent_sheet =
    sheet_header 3 1 1
    ++ (stop_rows
    ++ (bytes 4 7 ++ (bytes 4 0 ++ (bytes 4 2 ++ (bytes 4 1 ++ f64s (f1 ∷ 0 ∷ twenty ∷ 0 ∷ 0 ∷ 0 ∷ 0 ∷ []))))
    ++ f64s (0 ∷ f10 ∷ five ∷ five ∷ 0 ∷ f4 ∷ twenty ∷ f4 ∷ 0 ∷ [])))

-- sheet A with due times of both stops and a rest of 5 that starts from `earliest` to `latest`
abbrev pub sheet_between : ℕ → ℕ → ℕ → ℕ → List ℕ
sheet_between due₁ due₂ earliest latest =
    sheet_header 3 1 1
    ++ ((row_bytes 0 0 0 no_times ++ (row_bytes 10 1 2 (0 ∷ 0 ∷ due₁ ∷ 0 ∷ []) ++ row_bytes 0xffff_fff6 1 2 (0 ∷ 0 ∷ due₂ ∷ 0 ∷ [])))
    ++ (rest_vehicle earliest latest ++ table_bytes))

-- a sheet that the planner accepts, of whole numbers: demand 3 speaks of its plan
pub record WholeAccepted (s : List ℕ) : Type 0 where
  pub accepted : refusal_of s 256 ≡ 0
  pub whole : Whole s

-- those that wrong plans are held against
pub record WholeSheets : Type 0 where
  pub of_sheet_a : WholeAccepted (sheet_a 1)
  pub carrying_one : WholeAccepted (sheet_carrying 1)
  pub due_ten : WholeAccepted (due f10)
  pub within_twenty_three : WholeAccepted (within twenty_three)
  pub rest_at_nine : WholeAccepted (sheet_at 0 nine)
  pub rest_at_twelve : WholeAccepted (sheet_at 1 twelve)
  pub rest_between : WholeAccepted (sheet_between f10 nineteen fourteen fourteen)
  pub rest_at_home : WholeAccepted (sheet_between f10 fourteen twenty twenty_four)
  pub bent : WholeAccepted bent_sheet

-- ---- plans
-- round 1 and nothing of stop 2: rounds counted, first set-aside stop, cost, distance
abbrev pub one_only : ℕ → ℕ → ℕ → ℕ → List ℕ
one_only rounds aside cost distance = plan_header rounds aside cost ++ (round_record 1 1 distance ++ (unused_rounds 2 ++ (depot_record ++ (visit_record 0 1 f10 ++ aside_record 0 0))))

-- round 1, and stop 2 aside
abbrev pub one_alone : ℕ → List ℕ
one_alone distance = one_only 1 2 distance distance

-- round 1, and a second one counted that is all zero
abbrev pub one_and_padding : List ℕ
one_and_padding = one_only 2 0 forty twenty

-- round 1, and stop 2 in no chain
abbrev pub two_missing : List ℕ
two_missing = one_only 1 0 twenty twenty

-- round 1, 2, and round 2 besides
abbrev pub two_twice : List ℕ
two_twice = plan_header 2 0 forty_four ++ (round_record 2 1 twenty_four ++ (round_record 1 2 twenty ++ (unused_rounds 1 ++ (depot_record ++ (visit_record 2 1 f10 ++ visit_record 0 2 fourteen)))))

-- both aside, stop 2 first
abbrev pub aside_two_one : List ℕ
aside_two_one = plan_header 0 2 no_cost ++ (unused_rounds 3 ++ (depot_record ++ (aside_record 0 0 ++ aside_record 1 0)))

-- ---- "A lawful round", of round 1, 2 with a rest of 5
pub record LawfulRests : Type 0 where
  -- "earliest and latest 12: rest before stop 1, duration 31"
  pub at_twelve : lawful (sheet_at 0 twelve) 0 (1 ∷ 2 ∷ []) ≡ true
  pub before_first : duration_n (sheet_at 0 twelve) 0 1 (1 ∷ 2 ∷ []) ≡ left 31
  -- "Both 24: no rest."
  pub at_twenty_four : lawful (sheet_at 0 twenty_four) 0 (1 ∷ 2 ∷ []) ≡ true
  pub unrested : duration_n (sheet_at 0 twenty_four) 0 0 (1 ∷ 2 ∷ []) ≡ left 24
  -- "Both 9: no schedule."
  pub at_nine : lawful (sheet_at 0 nine) 0 (1 ∷ 2 ∷ []) ≡ false
  -- stop 1 due 10 and a rest at 14: before the second stop alone
  pub later_place : lawful (sheet_between f10 nineteen fourteen fourteen) 0 (1 ∷ 2 ∷ []) ≡ true
  pub not_before_first : duration_n (sheet_between f10 nineteen fourteen fourteen) 0 1 (1 ∷ 2 ∷ []) ≡ failed
  pub before_second : duration_n (sheet_between f10 nineteen fourteen fourteen) 0 2 (1 ∷ 2 ∷ []) ≡ left 29
  -- "No rest stands on the way home": both stops are due as they are reached, and a rest from 20 to 24 could only start at the return
  pub returned_at : duration_n (sheet_between f10 fourteen twenty twenty_four) 0 0 (1 ∷ 2 ∷ []) ≡ left 24
  pub not_at_home : lawful (sheet_between f10 fourteen twenty twenty_four) 0 (1 ∷ 2 ∷ []) ≡ false
  -- "Drivers may now rest at the depot on return.": with the mark it does, and ends at 29
  pub at_home : lawful (home_between f10 fourteen twenty twenty_four) 0 (1 ∷ 2 ∷ []) ≡ true
  pub home_ends : rested_at_home (home_between f10 fourteen twenty twenty_four) 0 (left 24) ≡ left 29
