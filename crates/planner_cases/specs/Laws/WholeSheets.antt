-- Sheets of whole numbers without soft windows, told by a test. Assumes nothing.
use Rattle.std.specs.Prelude.{ℕ, ◌<◌, ◌≡◌, refl, Bool, not, ◌&&◌, List, T}
use Rattle.std.specs.Float.Ieee.{of_bits, le, round}
use Rattle.std.specs.Float.Ieee.Fits.{and_l, and_r}
use Rattle.std.proofs.Math.Dec.{T_not}
use Rattle.std.proofs.Math.Facts.{yes_and}
use Rattle.wire.specs.Bytes.{le as number, bytes, signed, f64_at}
use Rattle.numbers.specs.Range.{in_range}
use Rattle.numbers.specs.All.{all}
use Rattle.numbers.specs.Laws.All.{all_at}
use Rattle.sheet.specs.Fields.{rows_of, vehicles_of, method_of, times_of, spare_of, row_at, row_marks, service_at, ready_at, due_at, vehicle_at, id_field, depot_field, vehicle_marks, earliest_at, latest_at, rest_at, entries_of, entry_at, marked}
use Rattle.sheet.specs.Depots.{leading, depots_of}
use Rattle.sheet.specs.Ranges.{coordinate, demand, capacity, marks, vehicle_marking, amount, zero_bits, optional, interval, cost_per_distance, serving_in_range, row_in_range, maxima_in_range, rest_in_range, vehicle_in_range, same_id, new_id, rows_in_range, entries_in_range, vehicles_in_range}
use Rattle.sheet.specs.Refusal.{header_right, counts_right, method_right, lengths_right, needs_vehicle, fleet_right, contents, refusal_of}
use Rattle.sheet.specs.SheetA.{f10, sheet_a, sheet_carrying}
use Rattle.lawful.specs.Whole.{is_whole, WholeRow, WholeVehicle, Whole}
use Rattle.clarke_wright_savings.specs.Laws.Cases.{within}
use Rattle.solomon_i1.specs.Laws.Cases.{due}
use Rattle.planner_cases.specs.Table.{nine, twelve, fourteen, nineteen, twenty, twenty_three, twenty_four, sheet_at}
use Rattle.planner_cases.specs.WrongPlans.{bent_sheet, sheet_between, WholeAccepted, WholeSheets}

abbrev whole_at : List ℕ → ℕ → Bool
whole_at s at = is_whole (f64_at s at)

abbrev whole_row : List ℕ → ℕ → Bool
whole_row s at = whole_at s (service_at at) && (whole_at s (ready_at at) && (whole_at s (due_at at) && not (marked 2 (row_marks s at) && marked 4 (row_marks s at))))

abbrev whole_vehicle : List ℕ → ℕ → Bool
whole_vehicle s at = whole_at s (earliest_at at) && (whole_at s (latest_at at) && whole_at s (rest_at at))

abbrev whole_sheet : List ℕ → Bool
whole_sheet s = all (λ i. whole_row s (row_at i)) (rows_of s) && (all (λ v. whole_vehicle s (vehicle_at s v)) (vehicles_of s) && all (λ k. whole_at s (entry_at s k)) (entries_of s))

module _ (s : List ℕ) (t : T (whole_sheet s)) where
  row_whole : (i : ℕ) → i < rows_of s → WholeRow s (row_at i)
  row_whole i h =
      let at = row_at i in
      let a = all_at (λ i. whole_row s (row_at i)) (rows_of s) i h (and_l (all (λ i. whole_row s (row_at i)) (rows_of s)) _ t) in
      let b = and_r (whole_at s (service_at at)) _ a in
      let c = and_r (whole_at s (ready_at at)) _ b in
      record {
        service = and_l (whole_at s (service_at at)) _ a;
        ready = and_l (whole_at s (ready_at at)) _ b;
        due = and_l (whole_at s (due_at at)) _ c;
        hard = λ p q. T_not _ (and_r (whole_at s (due_at at)) _ c) (yes_and (marked 2 (row_marks s at)) (marked 4 (row_marks s at)) p q);
      }

  vehicle_whole : (v : ℕ) → v < vehicles_of s → WholeVehicle s (vehicle_at s v)
  vehicle_whole v h =
      let at = vehicle_at s v in
      let u = and_r (all (λ i. whole_row s (row_at i)) (rows_of s)) _ t in
      let a = all_at (λ v. whole_vehicle s (vehicle_at s v)) (vehicles_of s) v h (and_l (all (λ v. whole_vehicle s (vehicle_at s v)) (vehicles_of s)) _ u) in
      let b = and_r (whole_at s (earliest_at at)) _ a in
      record { earliest = and_l (whole_at s (earliest_at at)) _ a; latest = and_l (whole_at s (latest_at at)) _ b; resting = and_r (whole_at s (latest_at at)) _ b }

  sheet_whole : Whole s
  sheet_whole =
      let u = and_r (all (λ i. whole_row s (row_at i)) (rows_of s)) _ t in
      record {
        row = row_whole;
        vehicle = vehicle_whole;
        entry = λ k h. all_at (λ k. whole_at s (entry_at s k)) (entries_of s) k h (and_r (all (λ v. whole_vehicle s (vehicle_at s v)) (vehicles_of s)) _ u);
      }

-- ---- the sheets that wrong plans are held against
whole_accepted : (s : List ℕ) → refusal_of s 256 ≡ 0 → T (whole_sheet s) → WholeAccepted s
whole_accepted s e t = record { accepted = e; whole = sheet_whole s t }

pub whole_sheets : WholeSheets
unfolding refusal_of header_right counts_right method_right lengths_right needs_vehicle fleet_right contents rows_of vehicles_of method_of times_of spare_of row_marks id_field depot_field vehicle_marks marked leading depots_of coordinate demand capacity marks vehicle_marking amount zero_bits optional interval cost_per_distance serving_in_range row_in_range maxima_in_range rest_in_range vehicle_in_range same_id new_id rows_in_range entries_in_range vehicles_in_range in_range all number bytes signed f64_at of_bits le round
whole_sheets = record {
  of_sheet_a = whole_accepted (sheet_a 1) refl tt;
  carrying_one = whole_accepted (sheet_carrying 1) refl tt;
  due_ten = whole_accepted (due f10) refl tt;
  within_twenty_three = whole_accepted (within twenty_three) refl tt;
  rest_at_nine = whole_accepted (sheet_at 0 nine) refl tt;
  rest_at_twelve = whole_accepted (sheet_at 1 twelve) refl tt;
  rest_between = whole_accepted (sheet_between f10 nineteen fourteen fourteen) refl tt;
  rest_at_home = whole_accepted (sheet_between f10 fourteen twenty twenty_four) refl tt;
  bent = whole_accepted bent_sheet refl tt;
}
