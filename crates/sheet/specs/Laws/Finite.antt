-- On an accepted sheet no field is a NaN: each is finite, not negative, and at most the end of its range. So no sum or product of a walk overflows.
use Rattle.std.specs.Prelude.{◌≡◌, refl, ℕ, ◌+◌, ◌*◌, ◌^◌, ◌≤◌, ◌<◌, Bool, true, false, not, List, T, ltb, ℤ, Float, Option, Some, None}
use Rattle.std.proofs.Common.{sym, ap, ◌∙◌, subst, add-mul, one-mul, arith, eqb→eq, leb→le, ltb-true, ltb-false, add_assoc}
use Rattle.std.proofs.Math.Arith.{digits_lt}
use Rattle.std.specs.Float.{binary64}
use Rattle.std.specs.Float.Ieee.{of_bits, fits}
use Rattle.std.specs.Float.Ieee.Bits.{nan_bits_is, of_bits-fits}
use Rattle.std.specs.Float.Ieee.Fits.{and_l, and_r}
use Rattle.wire.specs.Bytes.{u32_at, u64_at, f64_at, is_number, signed}
use Rattle.wire.specs.Laws.Bytes.{signed_low, signed_high}
use Rattle.numbers.specs.Laws.Upto.{Upto, no_nan}
use Rattle.numbers.specs.Range.{in_range, whole}
use Rattle.numbers.specs.Laws.Range.{in_range_upto, zero_upto}
use Rattle.sheet.specs.declared.customer.Window.{Window}
use Rattle.sheet.specs.declared.customer.Gate.{Gate}
use Rattle.sheet.specs.declared.customer.Gate.TheVariants.{Open, Hard, Soft}
use Rattle.sheet.specs.declared.customer.Stop.{Stop}
use Rattle.sheet.specs.declared.vehicle.VehicleBreak.{VehicleBreak}
use Rattle.sheet.specs.declared.vehicle.Vehicle.{Vehicle}
use Rattle.sheet.specs.Fields.{rows_of, vehicles_of, times_of, row_at, row_marks, service_at, ready_at, due_at, penalty_at, vehicle_at, vehicle_marks, cost_at, fixed_at, max_distance_at, max_duration_at, earliest_at, latest_at, rest_at, entries_of, entry_at, marked}
use Rattle.sheet.specs.Ranges.{demand, capacity, amount, zero_bits, optional, interval, cost_per_distance}
use Rattle.sheet.specs.Accepted.{RowRanges, VehicleRanges, Accepted}
use Rattle.sheet.specs.Values.{gate_of, gate_at, demand_of, stop_of, limit_of, limit_at, rest_of, rest_after, vehicle_of, distance_of, time_of}
use Rattle.sheet.specs.Finite.{RowNumbers, VehicleNumbers}

-- ---- a field
-- what is at most some number is a number
pub number : (k : ℕ) (s : List ℕ) (at : ℕ) → Upto k (f64_at s at) → T (is_number s at)
unfolding f64_at is_number
number k s at u = subst (λ (b : Bool). T (not b)) (sym (nan_bits_is binary64 (u64_at s at))) (no_nan k (of_bits binary64 (u64_at s at)) u)

pub amount_upto : (s : List ℕ) (at : ℕ) → T (amount s at) → Upto (10 ^ 9) (f64_at s at)
unfolding amount f64_at
amount_upto s at t = in_range_upto (u64_at s at) (10 ^ 9) (omega arith) t

zero_field : (k : ℕ) (s : List ℕ) (at : ℕ) → T (zero_bits s at) → Upto k (f64_at s at)
unfolding zero_bits f64_at
zero_field k s at t = subst (λ (n : ℕ). Upto k (of_bits binary64 n)) (sym (eqb→eq (u64_at s at) 0 t)) (zero_upto k)

optional_upto : (k : ℕ) (b : Bool) (s : List ℕ) (at : ℕ) → k ≤ 2 ^ 53 → T (optional b (whole k) s at) → Upto k (f64_at s at)
unfolding optional f64_at
optional_upto k true s at h t = in_range_upto (u64_at s at) k h t
optional_upto k false s at h t = zero_field k s at t

interval_upto : (b : Bool) (s : List ℕ) (at : ℕ) → T (interval b s at) → Upto (10 ^ 9) (f64_at s at) × Upto (10 ^ 9) (f64_at s (at + 8))
unfolding interval
interval_upto true s at t =
    (amount_upto s at (and_l (amount s at) _ t), amount_upto s (at + 8) (and_l (amount s (at + 8)) _ (and_r (amount s at) _ t)))
interval_upto false s at t =
    (zero_field (10 ^ 9) s at (and_l (zero_bits s at) _ t), zero_field (10 ^ 9) s (at + 8) (and_r (zero_bits s at) _ t))

cost_upto : (s : List ℕ) (at : ℕ) → T (cost_per_distance s at) → Upto (10 ^ 6) (f64_at s at)
unfolding cost_per_distance f64_at
cost_upto s at t = in_range_upto (u64_at s at) (10 ^ 6) (omega arith) (and_l (in_range (u64_at s at) (whole (10 ^ 6))) _ t)

-- ---- a record's fields, whatever its marks
pub record RowFinite (s : List ℕ) (at : ℕ) : Type 0 where
  pub service : Upto (10 ^ 9) (f64_at s (service_at at))
  pub ready : Upto (10 ^ 9) (f64_at s (ready_at at))
  pub due : Upto (10 ^ 9) (f64_at s (due_at at))
  pub penalty : Upto (10 ^ 6) (f64_at s (penalty_at at))

pub record VehicleFinite (s : List ℕ) (at : ℕ) : Type 0 where
  pub cost : Upto (10 ^ 6) (f64_at s (cost_at at))
  pub fixed : Upto (10 ^ 9) (f64_at s (fixed_at at))
  pub distance : Upto (10 ^ 12) (f64_at s (max_distance_at at))
  pub duration : Upto (10 ^ 12) (f64_at s (max_duration_at at))
  pub earliest : Upto (10 ^ 9) (f64_at s (earliest_at at))
  pub latest : Upto (10 ^ 9) (f64_at s (latest_at at))
  pub resting : Upto (10 ^ 9) (f64_at s (rest_at at))

pub row_finite : (s : List ℕ) (at : ℕ) → RowRanges s at → RowFinite s at
row_finite s at r =
    let w = interval_upto (marked 2 (row_marks s at)) s (ready_at at) r.window in
    record {
      service = amount_upto s (service_at at) r.service;
      ready = w.0;
      due = subst (λ (n : ℕ). Upto (10 ^ 9) (f64_at s n)) (add_assoc at 24 8) w.1;
      penalty = optional_upto (10 ^ 6) (marked 4 (row_marks s at)) s (penalty_at at) (omega arith) r.penalty;
    }

pub vehicle_finite : (s : List ℕ) (at : ℕ) → VehicleRanges s at → VehicleFinite s at
vehicle_finite s at r =
    let w = interval_upto (marked 4 (vehicle_marks s at)) s (earliest_at at) r.rest in
    record {
      cost = cost_upto s (cost_at at) r.cost;
      fixed = amount_upto s (fixed_at at) r.fixed;
      distance = optional_upto (10 ^ 12) (marked 1 (vehicle_marks s at)) s (max_distance_at at) (omega arith) r.distance;
      duration = optional_upto (10 ^ 12) (marked 2 (vehicle_marks s at)) s (max_duration_at at) (omega arith) r.duration;
      earliest = w.0;
      latest = subst (λ (n : ℕ). Upto (10 ^ 9) (f64_at s n)) (add_assoc at 48 8) w.1;
      resting = optional_upto (10 ^ 9) (marked 4 (vehicle_marks s at)) s (rest_at at) (omega arith) r.resting;
    }

pub row_numbers : (s : List ℕ) → Accepted s → (i : ℕ) → i < rows_of s → RowNumbers s (row_at i)
row_numbers s a i h =
    let f = row_finite s (row_at i) (a.row i h) in
    record {
      service = number (10 ^ 9) s _ f.service;
      ready = number (10 ^ 9) s _ f.ready;
      due = number (10 ^ 9) s _ f.due;
      penalty = number (10 ^ 6) s _ f.penalty;
    }

pub vehicle_numbers : (s : List ℕ) → Accepted s → (v : ℕ) → v < vehicles_of s → VehicleNumbers s (vehicle_at s v)
vehicle_numbers s a v h =
    let f = vehicle_finite s (vehicle_at s v) (a.vehicle v h) in
    record {
      cost = number (10 ^ 6) s _ f.cost;
      fixed = number (10 ^ 9) s _ f.fixed;
      distance = number (10 ^ 12) s _ f.distance;
      duration = number (10 ^ 12) s _ f.duration;
      earliest = number (10 ^ 9) s _ f.earliest;
      latest = number (10 ^ 9) s _ f.latest;
      resting = number (10 ^ 9) s _ f.resting;
    }

pub entry_number : (s : List ℕ) → Accepted s → (k : ℕ) → k < entries_of s → T (is_number s (entry_at s k))
entry_number s a k h = number (10 ^ 9) s (entry_at s k) (amount_upto s (entry_at s k) (a.entry k h))

-- ---- what the accessors give
pub record WindowBounded (w : Window) : Type 0 where
  pub ready : Upto (10 ^ 9) w.ready
  pub due : Upto (10 ^ 9) w.due

abbrev pub GateBounded : Gate → Type 0
GateBounded Open = Unit
GateBounded (Hard w) = WindowBounded w
GateBounded (Soft w x) = WindowBounded w × Upto (10 ^ 6) x

pub record StopBounded (t : Stop) : Type 0 where
  pub service : Upto (10 ^ 9) t.service
  pub gate : GateBounded t.gate

abbrev pub LimitBounded : Option Float → Type 0
LimitBounded None = Unit
LimitBounded (Some x) = Upto (10 ^ 12) x

pub record BreakBounded (b : VehicleBreak) : Type 0 where
  pub earliest : Upto (10 ^ 9) b.earliest
  pub latest : Upto (10 ^ 9) b.latest
  pub duration : Upto (10 ^ 9) b.duration

abbrev pub RestBounded : Option VehicleBreak → Type 0
RestBounded None = Unit
RestBounded (Some b) = BreakBounded b

pub record VehicleBounded (v : Vehicle) : Type 0 where
  pub cost : Upto (10 ^ 6) v.cost_per_distance
  pub fixed : Upto (10 ^ 9) v.fixed_cost
  pub distance : LimitBounded v.max_distance
  pub duration : LimitBounded v.max_duration
  pub rest : RestBounded v.rest

gate_bounded : (w p : Bool) (b : Window) (x : Float) → WindowBounded b → Upto (10 ^ 6) x → GateBounded (gate_of w p b x)
gate_bounded false p b x u v = tt
gate_bounded true false b x u v = u
gate_bounded true true b x u v = (u, v)

-- a window's due is an f64's value
abbrev pub GateFits : Gate → Type 0
GateFits Open = Unit
GateFits (Hard w) = T (fits binary64 w.due)
GateFits (Soft w x) = T (fits binary64 w.due)

due_fits : (w p : Bool) (b : Window) (x : Float) → T (fits binary64 b.due) → GateFits (gate_of w p b x)
due_fits false p b x t = tt
due_fits true false b x t = t
due_fits true true b x t = t

pub gate_fits : (s : List ℕ) (i : ℕ) → GateFits (stop_of s i).gate
unfolding stop_of gate_at f64_at
gate_fits s i = due_fits (marked 2 (row_marks s (row_at i))) (marked 4 (row_marks s (row_at i))) _ _ (of_bits-fits binary64 (u64_at s (due_at (row_at i))))

limit_bounded : (m : Bool) (x : Float) → Upto (10 ^ 12) x → LimitBounded (limit_of m x)
limit_bounded false x u = tt
limit_bounded true x u = u

rest_bounded : (m : Bool) (b : VehicleBreak) → BreakBounded b → RestBounded (rest_of m b)
rest_bounded false b u = tt
rest_bounded true b u = u

-- ---- a demand and a capacity, read unsigned
demand_upto : (n : ℕ) → T (demand (signed n)) → n ≤ 1000000
unfolding demand
demand_upto n t = go (ltb n 0x8000_0000) refl
  where
    go : (b : Bool) → ltb n 0x8000_0000 ≡ b → n ≤ 1000000
    go true e = leb→le n 1000000 (subst (λ (z : ℤ). T (demand z)) (signed_low n (ltb-true n 0x8000_0000 e)) t)
    go false e = absurd (subst (λ (z : ℤ). T (demand z)) (signed_high n (ltb-false n 0x8000_0000 e)) t)

capacity_upto : (n : ℕ) → T (capacity (signed n)) → n < 0x8000_0000
unfolding capacity
capacity_upto n t = go (ltb n 0x8000_0000) refl
  where
    go : (b : Bool) → ltb n 0x8000_0000 ≡ b → n < 0x8000_0000
    go true e = ltb-true n 0x8000_0000 e
    go false e = absurd (subst (λ (z : ℤ). T (capacity z)) (signed_high n (ltb-false n 0x8000_0000 e)) t)

module _ (s : List ℕ) (a : Accepted s) where
  pub stop_bounded : (i : ℕ) → i < rows_of s → StopBounded (stop_of s i)
  unfolding stop_of gate_at
  stop_bounded i h =
      let f = row_finite s (row_at i) (a.row i h) in
      record {
        service = f.service;
        gate = gate_bounded (marked 2 (row_marks s (row_at i))) (marked 4 (row_marks s (row_at i))) _ _ (record { ready = f.ready; due = f.due }) f.penalty;
      }

  pub vehicle_bounded : (v : ℕ) → v < vehicles_of s → VehicleBounded (vehicle_of s v)
  unfolding vehicle_of limit_at rest_after
  vehicle_bounded v h =
      let f = vehicle_finite s (vehicle_at s v) (a.vehicle v h) in
      record {
        cost = f.cost;
        fixed = f.fixed;
        distance = limit_bounded (marked 1 (vehicle_marks s (vehicle_at s v))) _ f.distance;
        duration = limit_bounded (marked 2 (vehicle_marks s (vehicle_at s v))) _ f.duration;
        rest = rest_bounded (marked 4 (vehicle_marks s (vehicle_at s v))) _ (record { earliest = f.earliest; latest = f.latest; duration = f.resting });
      }

  pub entries_split : entries_of s ≡ rows_of s * rows_of s + times_of s * (rows_of s * rows_of s)
  entries_split = add-mul 1 (times_of s) (rows_of s * rows_of s) ∙ ap (λ (k : ℕ). k + times_of s * (rows_of s * rows_of s)) (one-mul (rows_of s * rows_of s))

  entry_bounded : (k : ℕ) → k < entries_of s → Upto (10 ^ 9) (f64_at s (entry_at s k))
  entry_bounded k h = amount_upto s (entry_at s k) (a.entry k h)

  pub distance_bounded : (i j : ℕ) → i < rows_of s → j < rows_of s → Upto (10 ^ 9) (distance_of s i j)
  unfolding distance_of
  distance_bounded i j h k = let l = digits_lt h k in entry_bounded (i * rows_of s + j) (omega (arith, entries_split))

  pub time_bounded : (i j : ℕ) → i < rows_of s → j < rows_of s → Upto (10 ^ 9) (time_of s i j)
  unfolding time_of
  time_bounded i j h k = let l = digits_lt h k in entry_bounded (times_of s * (rows_of s * rows_of s) + (i * rows_of s + j)) (omega (arith, entries_split))

  -- a demand is at most a million, a capacity fits the i32 it is written as
  pub demand_bounded : (i : ℕ) → i < rows_of s → demand_of s i ≤ 1000000
  unfolding demand_of
  demand_bounded i h = demand_upto (u32_at s (row_at i + 8)) (a.row i h).demanded

  pub capacity_bounded : (v : ℕ) → v < vehicles_of s → (vehicle_of s v).capacity < 0x8000_0000
  unfolding vehicle_of
  capacity_bounded v h = capacity_upto (u32_at s (vehicle_at s v + 8)) (a.vehicle v h).carries

-- a distance is an f64's value
pub distance_fits : (s : List ℕ) (i j : ℕ) → T (fits binary64 (distance_of s i j))
unfolding distance_of f64_at
distance_fits s i j = of_bits-fits binary64 (u64_at s (entry_at s (i * rows_of s + j)))
