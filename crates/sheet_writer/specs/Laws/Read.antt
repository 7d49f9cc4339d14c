-- A header, a row, a vehicle or an entry that stands in a list of bytes is read back by the sheet's definitions. Assumes nothing.
use Rattle.std.specs.Prelude.{◌≡◌, refl, ℕ, ◌+◌, ◌<◌, List, [], ◌∷◌, T, length, get_or, ℤ, Float}
use Rattle.std.proofs.Common.{sym, ap, ◌∙◌, add-zero, arith}
use Rattle.std.specs.Int.Signed.{mag}
use Rattle.std.specs.Float.{binary64}
use Rattle.std.specs.Float.Ieee.{fits, of_bits, to_bits}
use Rattle.std.specs.Float.Ieee.Bits.{of_bits-to_bits, to_bits-lt}
use Rattle.wire.specs.Bytes.{le, u64_at, f64_at, signed}
use Rattle.sheet.specs.Fields.{header_size, row_size, vehicle_size, rows_of, vehicles_of, method_of, times_of, spare_of, x_field, y_field, demand_field, row_marks, service_at, ready_at, due_at, penalty_at, id_field, depot_field, capacity_field, vehicle_marks, cost_at, fixed_at, max_distance_at, max_duration_at, earliest_at, latest_at, rest_at}
use Rattle.sheet_writer.specs.Sheet.{unsigned, float_bytes, header_record, row_record, vehicle_record}
use Rattle.sheet_writer.specs.declared.RowFields.{RowFields}
use Rattle.sheet_writer.specs.declared.VehicleFields.{VehicleFields}
use Rattle.sheet_writer.specs.Laws.Signed.{signed_unsigned, unsigned_lt}
use Rattle.sheet_writer.specs.Laws.Stands.{Stands}
use Rattle.sheet_writer.specs.Laws.Layout.{fields_bytes, field, offset, length_fields, field_back}

-- ---- values that their fields hold: `mag z` is n both for n and for -(n + 1), so this is every signed number of 32 bits
pub record RowFits (r : RowFields) : Type 0 where
  pub x : mag r.x < 0x8000_0000
  pub y : mag r.y < 0x8000_0000
  pub demand : mag r.demand < 0x8000_0000
  pub marks : r.marks < 0x1_0000_0000
  pub service : T (fits binary64 r.service)
  pub ready : T (fits binary64 r.ready)
  pub due : T (fits binary64 r.due)
  pub penalty : T (fits binary64 r.penalty)

pub record VehicleFits (v : VehicleFields) : Type 0 where
  pub id : v.id < 0x1_0000_0000
  pub depot : v.depot < 0x1_0000_0000
  pub capacity : mag v.capacity < 0x8000_0000
  pub marks : v.marks < 0x1_0000_0000
  pub cost : T (fits binary64 v.cost_per_distance)
  pub fixed : T (fits binary64 v.fixed_cost)
  pub distance : T (fits binary64 v.max_distance)
  pub duration : T (fits binary64 v.max_duration)
  pub earliest : T (fits binary64 v.earliest)
  pub latest : T (fits binary64 v.latest)
  pub rest : T (fits binary64 v.rest_duration)

-- ---- what is read
pub record FloatRead (s : List ℕ) (at : ℕ) (x : Float) : Type 0 where
  pub bits : u64_at s at ≡ to_bits binary64 x
  pub number : f64_at s at ≡ x

pub record HeaderRead (s : List ℕ) (n m methodByte timeByte : ℕ) : Type 0 where
  pub rows : rows_of s ≡ n
  pub vehicles : vehicles_of s ≡ m
  pub method : method_of s ≡ methodByte
  pub times : times_of s ≡ timeByte
  pub spare : spare_of s ≡ 0

pub record RowRead (s : List ℕ) (at : ℕ) (r : RowFields) : Type 0 where
  pub x : x_field s at ≡ r.x
  pub y : y_field s at ≡ r.y
  pub demand : demand_field s at ≡ r.demand
  pub marks : row_marks s at ≡ r.marks
  pub service : FloatRead s (service_at at) r.service
  pub ready : FloatRead s (ready_at at) r.ready
  pub due : FloatRead s (due_at at) r.due
  pub penalty : FloatRead s (penalty_at at) r.penalty

pub record VehicleRead (s : List ℕ) (at : ℕ) (v : VehicleFields) : Type 0 where
  pub id : id_field s at ≡ v.id
  pub depot : depot_field s at ≡ v.depot
  pub capacity : capacity_field s at ≡ v.capacity
  pub marks : vehicle_marks s at ≡ v.marks
  pub cost : FloatRead s (cost_at at) v.cost_per_distance
  pub fixed : FloatRead s (fixed_at at) v.fixed_cost
  pub distance : FloatRead s (max_distance_at at) v.max_distance
  pub duration : FloatRead s (max_duration_at at) v.max_duration
  pub earliest : FloatRead s (earliest_at at) v.earliest
  pub latest : FloatRead s (latest_at at) v.latest
  pub rest : FloatRead s (rest_at at) v.rest_duration

-- ---- each record by its fields
abbrev header_layout : ℕ → ℕ → ℕ → ℕ → List (ℕ × ℕ)
header_layout rows vehicles method times = (2, rows) ∷ (2, vehicles) ∷ (1, method) ∷ (1, times) ∷ (10, 0) ∷ []

abbrev float : Float → ℕ × ℕ
float x = (8, to_bits binary64 x)

abbrev row_layout : RowFields → List (ℕ × ℕ)
row_layout r = (4, unsigned r.x) ∷ (4, unsigned r.y) ∷ (4, unsigned r.demand) ∷ (4, r.marks) ∷ float r.service ∷ float r.ready ∷ float r.due ∷ float r.penalty ∷ []

abbrev vehicle_layout : VehicleFields → List (ℕ × ℕ)
vehicle_layout v = (4, v.id) ∷ (4, v.depot) ∷ (4, unsigned v.capacity) ∷ (4, v.marks) ∷ float v.cost_per_distance ∷ float v.fixed_cost ∷ float v.max_distance ∷ float v.max_duration ∷ float v.earliest ∷ float v.latest ∷ float v.rest_duration ∷ []

pub length_header : (rows vehicles method times : ℕ) → length (header_record rows vehicles method times) ≡ header_size
unfolding header_record
length_header rows vehicles method times = length_fields (header_layout rows vehicles method times)

pub length_row : (r : RowFields) → length (row_record r) ≡ row_size
unfolding row_record
length_row r = length_fields (row_layout r)

pub length_vehicle : (v : VehicleFields) → length (vehicle_record v) ≡ vehicle_size
unfolding vehicle_record
length_vehicle v = length_fields (vehicle_layout v)

-- ---- a record that stands somewhere
float_read : (s : List ℕ) (at : ℕ) (x : Float) → T (fits binary64 x) → u64_at s at ≡ to_bits binary64 x → FloatRead s at x
unfolding f64_at
float_read s at x f e = record { bits = e; number = ap (of_bits binary64) e ∙ of_bits-to_bits binary64 x f }

-- its field k, a signed number or an f64
module _ (s : List ℕ) (at : ℕ) (gs : List (ℕ × ℕ)) (st : Stands s at (fields_bytes gs)) (k : ℕ) (h : k < length gs) where
  signed_back : (z : ℤ) → field gs k ≡ (4, unsigned z) → mag z < 0x8000_0000 → signed (le 4 s (at + offset gs k)) ≡ z
  signed_back z e l = ap signed (field_back s at gs st k h 4 (unsigned z) e (unsigned_lt z l)) ∙ signed_unsigned z l

  float_back : (x : Float) → field gs k ≡ float x → T (fits binary64 x) → FloatRead s (at + offset gs k) x
  float_back x e f = float_read s (at + offset gs k) x f (field_back s at gs st k h 8 (to_bits binary64 x) e (to_bits-lt binary64 x f))

byte : (s : List ℕ) (at : ℕ) → le 1 s at ≡ get_or s at 0
unfolding le
byte s at = omega arith

pub header_read : (s : List ℕ) (rows vehicles method times : ℕ) → rows < 65536 → vehicles < 65536 → method < 256 → times < 256 → Stands s 0 (header_record rows vehicles method times) → HeaderRead s rows vehicles method times
unfolding header_record rows_of vehicles_of method_of times_of spare_of
header_read s rows vehicles method times a b c d st =
    let gs = header_layout rows vehicles method times in
    record {
      rows = field_back s 0 gs st 0 (omega arith) 2 rows refl a;
      vehicles = field_back s 0 gs st 1 (omega arith) 2 vehicles refl b;
      method = sym (byte s 4) ∙ field_back s 0 gs st 2 (omega arith) 1 method refl c;
      times = sym (byte s 5) ∙ field_back s 0 gs st 3 (omega arith) 1 times refl d;
      spare = field_back s 0 gs st 4 (omega arith) 10 0 refl (omega arith);
    }

pub row_read : (s : List ℕ) (at : ℕ) (r : RowFields) → RowFits r → Stands s at (row_record r) → RowRead s at r
unfolding row_record row_marks
row_read s at r f st =
    let gs = row_layout r in
    record {
      x = rw add-zero at (signed_back s at gs st 0 (omega arith) r.x refl f.x);
      y = signed_back s at gs st 1 (omega arith) r.y refl f.y;
      demand = signed_back s at gs st 2 (omega arith) r.demand refl f.demand;
      marks = field_back s at gs st 3 (omega arith) 4 r.marks refl f.marks;
      service = float_back s at gs st 4 (omega arith) r.service refl f.service;
      ready = float_back s at gs st 5 (omega arith) r.ready refl f.ready;
      due = float_back s at gs st 6 (omega arith) r.due refl f.due;
      penalty = float_back s at gs st 7 (omega arith) r.penalty refl f.penalty;
    }

pub vehicle_read : (s : List ℕ) (at : ℕ) (v : VehicleFields) → VehicleFits v → Stands s at (vehicle_record v) → VehicleRead s at v
unfolding vehicle_record id_field depot_field vehicle_marks
vehicle_read s at v f st =
    let gs = vehicle_layout v in
    record {
      id = rw add-zero at (field_back s at gs st 0 (omega arith) 4 v.id refl f.id);
      depot = field_back s at gs st 1 (omega arith) 4 v.depot refl f.depot;
      capacity = signed_back s at gs st 2 (omega arith) v.capacity refl f.capacity;
      marks = field_back s at gs st 3 (omega arith) 4 v.marks refl f.marks;
      cost = float_back s at gs st 4 (omega arith) v.cost_per_distance refl f.cost;
      fixed = float_back s at gs st 5 (omega arith) v.fixed_cost refl f.fixed;
      distance = float_back s at gs st 6 (omega arith) v.max_distance refl f.distance;
      duration = float_back s at gs st 7 (omega arith) v.max_duration refl f.duration;
      earliest = float_back s at gs st 8 (omega arith) v.earliest refl f.earliest;
      latest = float_back s at gs st 9 (omega arith) v.latest refl f.latest;
      rest = float_back s at gs st 10 (omega arith) v.rest_duration refl f.rest;
    }

pub entry_read : (s : List ℕ) (at : ℕ) (x : Float) → T (fits binary64 x) → Stands s at (float_bytes x) → FloatRead s at x
entry_read s at x f st = rw add-zero at (float_back s at (float x ∷ []) st 0 (omega arith) x refl f)
