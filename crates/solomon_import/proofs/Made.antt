-- The fields of a row and of the vehicle, made of numbers as the code has them. Assumes nothing.
use mathlib.Core.Path.{◌≡◌, refl}
use Prim.Native.Nat.{ℕ, ◌≤◌}
use native.Mathlib.Omega.{arith}
use mathlib.Core.List.{List}
use lib.IntN.{ℤ, nat_abs}
use lib.Dec.{T}
use mathlib.Core.Bool.{not}
use lib.Ieee.{binary64, of_int, of_bits, of_fields, odd, round, is_nan}
use Rattle.numbers.specs.Range.{whole}
use Rattle.numbers.specs.Laws.Upto.{exact, no_nan, round_upto}
use Rattle.sheet_writer.specs.Numbered.{RowNumbered, VehicleNumbered}
use Rattle.solomon_text.specs.Numbers.{number_at}
use Rattle.sheet_writer.specs.declared.RowFields.{RowFields}
use Rattle.sheet_writer.specs.declared.VehicleFields.{VehicleFields}
use Rattle.solomon_import.specs.Instance.{Customer, customer_of}
use Rattle.solomon_import.specs.Import.{row_fields_of, vehicle_fields_of}
use Rattle.solomon_import.specs.Laws.Ranged.{Ranged, up_to_whole, up_to_size}
use Rattle.solomon_import.specs.Laws.Imported.{ranged_fits}

pub nought : of_bits binary64 0 ≡ whole 0
unfolding of_bits of_fields odd round
nought = refl

pub unit : of_bits binary64 0x3ff0_0000_0000_0000 ≡ whole 1
unfolding of_bits of_fields odd round
unit = refl

module _ (line : List ℕ) (h : Ranged (customer_of line)) where
  -- each number fits a signed field
  pub x_fits : nat_abs (number_at line 1) ≤ 0x7fff_ffff
  unfolding customer_of
  x_fits = (ranged_fits (customer_of line) h).x

  pub y_fits : nat_abs (number_at line 2) ≤ 0x7fff_ffff
  unfolding customer_of
  y_fits = (ranged_fits (customer_of line) h).y

  pub demand_fits : nat_abs (number_at line 3) ≤ 0x7fff_ffff
  unfolding customer_of
  demand_fits = (ranged_fits (customer_of line) h).demand

  pub ready_fits : nat_abs (number_at line 4) ≤ 0x7fff_ffff
  unfolding customer_of
  ready_fits = let g = up_to_size 1000000000 (number_at line 4) h.ready in omega arith

  pub due_fits : nat_abs (number_at line 5) ≤ 0x7fff_ffff
  unfolding customer_of
  due_fits = let g = up_to_size 1000000000 (number_at line 5) h.due in omega arith

  pub service_fits : nat_abs (number_at line 6) ≤ 0x7fff_ffff
  unfolding customer_of
  service_fits = let g = up_to_size 1000000000 (number_at line 6) h.service in omega arith

  pub row_made : (marks : ℕ) (x y d r u s : ℤ) → x ≡ number_at line 1 → y ≡ number_at line 2 → d ≡ number_at line 3 → r ≡ number_at line 4 → u ≡ number_at line 5 → s ≡ number_at line 6 → ◌≡◌ {A = RowFields} (record { x = x; y = y; demand = d; marks = marks; service = of_int binary64 s; ready = of_int binary64 r; due = of_int binary64 u; penalty = of_bits binary64 0 }) (row_fields_of marks (customer_of line))
  unfolding customer_of row_fields_of
  row_made marks x y d r u s ex ey ed er eu es =
      rw (ex, ey, ed, er, eu, es, up_to_whole 1000000000 (number_at line 4) h.ready, up_to_whole 1000000000 (number_at line 5) h.due, up_to_whole 1000000000 (number_at line 6) h.service, nought) refl

pub vehicle_made : (capacity z : ℤ) → z ≡ capacity → ◌≡◌ {A = VehicleFields} (record { id = 0; depot = 0; capacity = z; marks = 0; cost_per_distance = of_bits binary64 0x3ff0_0000_0000_0000; fixed_cost = of_bits binary64 0; max_distance = of_bits binary64 0; max_duration = of_bits binary64 0; earliest = of_bits binary64 0; latest = of_bits binary64 0; rest_duration = of_bits binary64 0 }) (vehicle_fields_of capacity)
unfolding vehicle_fields_of
vehicle_made capacity z e = rw (e, unit, nought) refl

-- ---- no number is a NaN
whole_number_lem : (n : ℕ) → n ≤ 1000000000 → T (not (is_nan (whole n)))
whole_number_lem n h = no_nan n (whole n) (round_upto n 1 n (omega arith) (omega arith) (exact n (omega arith)))

pub row_numbered : (marks : ℕ) (c : Customer) → Ranged c → RowNumbered (row_fields_of marks c)
unfolding row_fields_of
row_numbered marks c h = record {
  service = whole_number_lem (nat_abs c.service) (up_to_size 1000000000 c.service h.service);
  ready = whole_number_lem (nat_abs c.ready) (up_to_size 1000000000 c.ready h.ready);
  due = whole_number_lem (nat_abs c.due) (up_to_size 1000000000 c.due h.due);
  penalty = whole_number_lem 0 (omega arith);
}

pub vehicle_numbered : (capacity : ℤ) → VehicleNumbered (vehicle_fields_of capacity)
unfolding vehicle_fields_of
vehicle_numbered capacity =
    let one = whole_number_lem 1 (omega arith) in
    let none = whole_number_lem 0 (omega arith) in
    record { cost = one; fixed = none; distance = none; duration = none; earliest = none; latest = none; rest = none }
