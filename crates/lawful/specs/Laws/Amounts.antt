-- What an accepted sheet of whole numbers gives a walk: each amount is its natural number, at most 10 ^ 9. Assumes nothing.
use Rattle.std.specs.Prelude.{◌≡◌, ℕ, ◌+◌, ◌*◌, ◌^◌, ◌≤◌, ◌<◌, Bool, false, List, T, Float}
use Rattle.std.proofs.Common.{ap, subst, arith, eqb→eq}
use Rattle.std.proofs.Math.Arith.{digits_lt}
use Rattle.std.specs.Float.{binary64}
use Rattle.std.specs.Float.Ieee.{of_bits, of_fields, odd}
use Rattle.std.specs.Float.Ieee.Fits.{and_l}
use Rattle.wire.specs.Bytes.{u64_at, f64_at}
use Rattle.numbers.specs.Laws.Upto.{Upto}
use Rattle.sheet.specs.Fields.{rows_of, vehicles_of, times_of, row_at, row_marks, service_at, ready_at, due_at, vehicle_at, earliest_at, latest_at, rest_at, marked}
use Rattle.sheet.specs.Ranges.{zero_bits, interval}
use Rattle.sheet.specs.Accepted.{Accepted}
use Rattle.sheet.specs.Values.{distance_of, time_of}
use Rattle.sheet.specs.Laws.Finite.{row_finite, vehicle_finite, entries_split, distance_bounded, time_bounded}
use Rattle.lawful.specs.Whole.{is_whole, nat_of, Whole, Is}
use Rattle.lawful.specs.Laws.Whole.{whole_is, whole_upto}
use Rattle.lawful.specs.Lawful.{time_n, distance_n, is_windowed, ready_n, due_n, service_n, earliest_n, latest_n, rest_n}

pub record Amount (n : ℕ) (x : Float) : Type 0 where
  pub is : Is n x
  pub small : n ≤ 10 ^ 9

amount : (x : Float) → T (is_whole x) → Upto (10 ^ 9) x → Amount (nat_of x) x
amount x t u = record { is = whole_is x t; small = whole_upto (10 ^ 9) x u }

-- the amounts of a row, and of a vehicle's rest
pub record RowAmounts (s : List ℕ) (i : ℕ) : Type 0 where
  pub service : Amount (service_n s i) (f64_at s (service_at (row_at i)))
  pub ready : Amount (ready_n s i) (f64_at s (ready_at (row_at i)))
  pub due : Amount (due_n s i) (f64_at s (due_at (row_at i)))
  pub unready : is_windowed s i ≡ false → ready_n s i ≡ 0
  pub hard : T (marked 2 (row_marks s (row_at i))) → T (marked 4 (row_marks s (row_at i))) → ⊥

pub record RestAmounts (s : List ℕ) (v : ℕ) : Type 0 where
  pub earliest : Amount (earliest_n s v) (f64_at s (earliest_at (vehicle_at s v)))
  pub latest : Amount (latest_n s v) (f64_at s (latest_at (vehicle_at s v)))
  pub duration : Amount (rest_n s v) (f64_at s (rest_at (vehicle_at s v)))

-- "An unmarked field is all zero bits."
unmarked : (s : List ℕ) (at : ℕ) (mark : Bool) → mark ≡ false → T (interval mark s at) → nat_of (f64_at s at) ≡ 0
unfolding interval zero_bits f64_at of_bits of_fields odd
unmarked s at mark e t =
    ap (λ (n : ℕ). nat_of (of_bits binary64 n)) (eqb→eq (u64_at s at) 0 (and_l (zero_bits s at) _ (subst (λ (b : Bool). T (interval b s at)) e t)))

module _ (s : List ℕ) (a : Accepted s) (w : Whole s) where
  pub row_amounts : (i : ℕ) → i < rows_of s → RowAmounts s i
  row_amounts i h =
      let f = row_finite s (row_at i) (a.row i h) in
      let r = w.row i h in
      record {
        service = amount _ r.service f.service;
        ready = amount _ r.ready f.ready;
        due = amount _ r.due f.due;
        unready = λ e. unmarked s (ready_at (row_at i)) (is_windowed s i) e (a.row i h).window;
        hard = r.hard;
      }

  pub rest_amounts : (v : ℕ) → v < vehicles_of s → RestAmounts s v
  rest_amounts v h =
      let f = vehicle_finite s (vehicle_at s v) (a.vehicle v h) in
      let r = w.vehicle v h in
      record { earliest = amount _ r.earliest f.earliest; latest = amount _ r.latest f.latest; duration = amount _ r.resting f.resting }

  pub distance_amount : (i j : ℕ) → i < rows_of s → j < rows_of s → Amount (distance_n s i j) (distance_of s i j)
  unfolding distance_of
  distance_amount i j h k =
      let l = digits_lt h k in
      amount (distance_of s i j) (w.entry (i * rows_of s + j) (omega (arith, entries_split s a))) (distance_bounded s a i j h k)

  pub time_amount : (i j : ℕ) → i < rows_of s → j < rows_of s → Amount (time_n s i j) (time_of s i j)
  unfolding time_of
  time_amount i j h k =
      let l = digits_lt h k in
      amount (time_of s i j) (w.entry (times_of s * (rows_of s * rows_of s) + (i * rows_of s + j)) (omega (arith, entries_split s a))) (time_bounded s a i j h k)
