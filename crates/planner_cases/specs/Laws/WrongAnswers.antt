-- Planners that break demands 1 and 2, **answer**, whatever was lent to them. Assumes nothing.
use Rattle.std.specs.Prelude.{ℕ, ◌<◌, refl, length, replicate, get_or}
use Rattle.std.proofs.Common.{arith, sym, ◌∙◌}
use Rattle.std.proofs.Math.Path.{◌≡◌, ap}
use mathlib.Core.List.{List, []}
use Rattle.lists.specs.Laws.Every.{every_at}
use Rattle.wire.specs.Bytes.{le as number, bytes}
use Rattle.sheet.specs.SheetA.{sheet_a}
use Rattle.clarke_wright_savings.specs.Laws.Cases.{within}
use Rattle.plan.specs.Read.{rounds_at, id_at, first_stop_at}
use Rattle.plan_reasons.specs.Reasons.{reason_at}
use Rattle.planner.specs.Answer.{Answer, answer_number, bytes_of, Answered}
use Rattle.planner_cases.specs.Table.{twelve, nineteen, twenty, twenty_three, twenty_four, one_two, two_one, one_two_rested, one_and_two, both_aside, sheet_at, within_both, plan_row, RowHolds, table_rows}
use Rattle.planner_cases.specs.WrongPlans.{load_stated, distance_stated, rest_start_stated, one_alone, one_and_padding}
use Rattle.planner_cases.specs.Laws.Table.{table_right}

-- ---- what is answered to a sheet of the table
module _ (s right lent : List ℕ) (n : ℕ) (plan : List ℕ) (row : RowHolds (plan_row s right)) (room : length lent ≡ length right) (a : Answered s lent n plan) where
  answered_number : n ≡ 0
  answered_number = a.number ∙ rw room (ap answer_number row)

  answered_plan : plan ≡ right
  answered_plan = a.bytes ∙ rw room (ap (λ (x : Answer). bytes_of x lent) row)

-- ---- rows of the table, counted from 0
row_at : (k : ℕ) → k < length table_rows → RowHolds (get_or table_rows k (plan_row [] []))
row_at k h = every_at RowHolds (plan_row [] []) table_rows k h table_right

by_savings : RowHolds (plan_row (sheet_a 0) one_two)
by_savings = row_at 0 (omega arith)

by_insertion : RowHolds (plan_row (sheet_a 1) two_one)
by_insertion = row_at 1 (omega arith)

two_rounds : RowHolds (plan_row (within twenty_three) one_and_two)
two_rounds = row_at 6 (omega arith)

with_rest : RowHolds (plan_row (sheet_at 0 twelve) one_two_rested)
with_rest = row_at 15 (omega arith)

over_both : RowHolds (plan_row (within_both nineteen nineteen) (both_aside 5))
over_both = row_at 27 (omega arith)

-- ---- a call for three rows: the bytes lent, and the number that it gives
module _ (lent : List ℕ) (n : ℕ) (room : length lent ≡ 256) where
  -- "one turning every sheet back"
  pub turned_back : (plan : List ℕ) → 0 < n → Answered (sheet_a 0) lent n plan → ⊥
  unfolding bytes
  turned_back plan h a = let z = answered_number (sheet_a 0) one_two lent n plan by_savings room a in omega (arith, z)

  -- "one writing the same plan for each sheet": for sheet A by savings and, in another call, by insertion
  pub same_plan : (plan lent₂ : List ℕ) (n₂ : ℕ) → length lent₂ ≡ 256 → Answered (sheet_a 0) lent n plan → Answered (sheet_a 1) lent₂ n₂ plan → ⊥
  unfolding number bytes first_stop_at
  same_plan plan lent₂ n₂ room₂ a b =
      let p = answered_plan (sheet_a 0) one_two lent n plan by_savings room a in
      let q = answered_plan (sheet_a 1) two_one lent₂ n₂ plan by_insertion room₂ b in
      let e : ◌≡◌ {A = ℕ} 1 2 = ap (λ (x : List ℕ). first_stop_at x 0) (sym p ∙ q) in
      omega (arith, e)

  -- "one that seats the first round and pads out the others": the second round all zero, and its stop set aside
  pub padded : Answered (within twenty_three) lent n one_and_padding → ⊥
  unfolding number bytes id_at
  padded a =
      let e : ◌≡◌ {A = ℕ} 0 7 = ap (λ (x : List ℕ). id_at x 1) (answered_plan (within twenty_three) one_and_two lent n one_and_padding two_rounds room a) in
      omega (arith, e)

  pub first_round_only : Answered (within twenty_three) lent n (one_alone twenty) → ⊥
  unfolding number bytes rounds_at
  first_round_only a =
      let e : ◌≡◌ {A = ℕ} 1 2 = ap rounds_at (answered_plan (within twenty_three) one_and_two lent n (one_alone twenty) two_rounds room a) in
      omega (arith, e)

  -- "one stating distances, loads or rest starts it never summed": any other figure, whatever else the plan says
  pub distance_not_summed : (plan : List ℕ) → (distance_stated plan 0 ≡ twenty_four → ⊥) → Answered (sheet_a 0) lent n plan → ⊥
  unfolding number bytes
  distance_not_summed plan other a = other (ap (λ (x : List ℕ). distance_stated x 0) (answered_plan (sheet_a 0) one_two lent n plan by_savings room a))

  pub load_not_summed : (plan : List ℕ) → (load_stated plan 0 ≡ 2 → ⊥) → Answered (sheet_a 0) lent n plan → ⊥
  unfolding number bytes
  load_not_summed plan other a = other (ap (λ (x : List ℕ). load_stated x 0) (answered_plan (sheet_a 0) one_two lent n plan by_savings room a))

  pub rest_start_not_summed : (plan : List ℕ) → (rest_start_stated plan 0 ≡ twelve → ⊥) → Answered (sheet_at 0 twelve) lent n plan → ⊥
  unfolding number bytes
  rest_start_not_summed plan other a = other (ap (λ (x : List ℕ). rest_start_stated x 0) (answered_plan (sheet_at 0 twelve) one_two_rested lent n plan with_rest room a))

  -- reasons 5 and 6 asked in the other order: a lone round over both maxima is told as over the duration
  pub reasons_swapped : Answered (within_both nineteen nineteen) lent n (both_aside 6) → ⊥
  unfolding number bytes reason_at
  reasons_swapped a =
      let e : ◌≡◌ {A = ℕ} 6 5 = ap (λ (x : List ℕ). reason_at x 3 1) (answered_plan (within_both nineteen nineteen) (both_aside 5) lent n (both_aside 6) over_both room a) in
      omega (arith, e)

  -- any reason on stop 1, which is on a round, whatever else the plan says
  pub reason_on_routed : (plan : List ℕ) → 0 < reason_at plan 3 1 → Answered (sheet_a 0) lent n plan → ⊥
  unfolding number bytes reason_at
  reason_on_routed plan some a =
      let e : reason_at plan 3 1 ≡ 0 = ap (λ (x : List ℕ). reason_at x 3 1) (answered_plan (sheet_a 0) one_two lent n plan by_savings room a) in
      omega (arith, some, e)

-- "or none": zero bytes lent and left as they are
pub no_plan : (n : ℕ) → Answered (sheet_a 0) (replicate 256 0) n (replicate 256 0) → ⊥
unfolding number bytes rounds_at
no_plan n a =
    let e : ◌≡◌ {A = ℕ} 0 1 = ap rounds_at (answered_plan (sheet_a 0) one_two (replicate 256 0) n (replicate 256 0) by_savings refl a) in
    omega (arith, e)
