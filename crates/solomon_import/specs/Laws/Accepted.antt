-- The sheet of a text that no refusal is told of is one that the planner takes, of the length that the importer returns. Assumes nothing.
use Rattle.std.specs.Prelude.{◌≡◌, refl, ℕ, zero, suc, ◌+◌, ◌^◌, ◌≤◌, ◌<◌, Bool, true, false, ◌||◌, List, T, ℤ, pos, nat_abs, get_or, take, drop, Float}
use Rattle.std.proofs.Common.{sym, ap, ◌∙◌, subst, zero-add, lt_of_not-le, arith, le→leb, lit≤}
use Rattle.std.proofs.Math.Decide.{dec_le}
use Rattle.std.proofs.Math.IntN.{pos-ne-negsuc}
use Rattle.std.proofs.Math.ListN.{length}
use Rattle.std.specs.Float.{binary64}
use Rattle.std.specs.Float.Ieee.{le}
use Rattle.std.specs.Float.Ieee.Fits.{and_i}
use Rattle.std.specs.Float.Ieee.Order.{round_mono}
use Rattle.sheet.specs.Laws.Stops.{depots_some}
use Rattle.wire.specs.Bytes.{write, u64_at, f64_at}
use Rattle.wire.specs.Laws.Bytes.{take_write, drop_write}
use Rattle.numbers.specs.Range.{whole, fraction, in_range}
use Rattle.sheet.specs.Fields.{rows_of, vehicles_of, row_at, vehicle_at, entries_of, entry_at, sheet_length, plan_length, marked}
use Rattle.sheet.specs.Ranges.{marks, vehicle_marking, amount, zero_bits, optional, interval, cost_per_distance}
use Rattle.sheet.specs.Refusal.{refusal_of}
use Rattle.sheet.specs.Accepted.{RowRanges, VehicleRanges, Accepted}
use Rattle.sheet.specs.Laws.Accepted.{not_refused}
use Rattle.sheet_writer.specs.Sheet.{sheet_bytes}
use Rattle.sheet_writer.specs.Laws.Read.{FloatRead, HeaderRead, RowRead, VehicleRead}
use Rattle.sheet_writer.specs.Laws.Sheet.{length_sheet, header_back, row_back, vehicle_back, entry_back}
use Rattle.solomon_import.specs.Instance.{Customer, customers_of, capacity_of}
use Rattle.solomon_import.specs.Import.{amount_range, window_range, capacity_range, import_length, import_refusal, import_number, marks_at, row_fields_of, vehicle_fields_of, import_fields, customer_at, no_customer, DistancesOf, ImportBytes, ImportAnswered, ImportAccepted}
use Rattle.solomon_import.specs.Reading.{text_refusal}
use Rattle.solomon_import.specs.Laws.Ranged.{Ranged, up_to_size}
use Rattle.solomon_import.specs.Laws.Taken.{Taken, taken, refusal_told, refusal_short}
use Rattle.solomon_import.specs.Laws.Whole.{in_range_plain, in_range_whole}
use Rattle.solomon_import.specs.Laws.Imported.{RootRange, length_rows, row_of, ranged_at, entry_range, ranged_fits, fields_fit}
use Rattle.solomon_import.specs.Laws.Ranges.{amount_read, window_read, unmarked_read, window_marked, penalty_unmarked, marks_right, capacity_same}

-- ---- a row
row_ranges : (s : List ℕ) (at i : ℕ) (c : Customer) → Ranged c → RowRead s at (row_fields_of (marks_at i) c) → RowRanges s at
unfolding row_fields_of optional window_range
row_ranges s at i c g r =
    let f = ranged_fits c g in
    record {
      x = rw r.x g.x;
      y = rw r.y g.y;
      demanded = rw r.demand g.demanded;
      marking = rw (r.marks, marks_right i) tt;
      service = rw (amount_read s (at + 16) c.service f.service r.service) g.service;
      window = rw (r.marks, window_marked i, window_read s (at + 24) (at + 32) (omega arith) c.ready c.due f.ready f.due r.ready r.due)
          (and_i (amount_range c.ready) _ g.ready (and_i (amount_range c.due) _ g.due (le→leb (nat_abs c.ready) (nat_abs c.due) g.ordered)));
      penalty = rw (r.marks, penalty_unmarked i, unmarked_read s (at + 40) r.penalty) tt;
    }

-- ---- the vehicle
or_right : (a b : Bool) → T b → T (a || b)
or_right true b t = tt
or_right false b t = t

cost_right : (s : List ℕ) (at : ℕ) → FloatRead s at (whole 1) → T (cost_per_distance s at)
unfolding cost_per_distance
cost_right s at r =
    and_i (in_range (u64_at s at) (whole (10 ^ 6))) (zero_bits s at || le (fraction 1 1000) (f64_at s at))
    (rw (r.bits, in_range_whole 1 (10 ^ 6) (lit≤ tt) (lit≤ tt)) tt)
    (or_right (zero_bits s at) (le (fraction 1 1000) (f64_at s at)) (rw r.number (round_mono binary64 1 1000 1 1 (omega arith) (omega arith) (omega arith))))

vehicle_ranges : (s : List ℕ) (at : ℕ) (z : ℤ) → T (capacity_range z) → VehicleRead s at (vehicle_fields_of z) → VehicleRanges s at
unfolding vehicle_fields_of optional interval marked marks vehicle_marking
vehicle_ranges s at z h r =
    let later : at + 48 + 8 ≡ at + 56 = omega arith in
    record {
      depot = rw r.depot (depots_some s);
      carries = rw (r.capacity, capacity_same z (up_to_size 0x7fff_ffff z h)) h;
      marking = rw r.marks tt;
      cost = cost_right s (at + 16) r.cost;
      fixed = rw (amount_read s (at + 24) (pos 0) tt r.fixed) tt;
      distance = rw (r.marks, unmarked_read s (at + 32) r.distance) tt;
      duration = rw (r.marks, unmarked_read s (at + 40) r.duration) tt;
      rest = rw (r.marks, unmarked_read s (at + 48) r.earliest, later, unmarked_read s (at + 56) r.latest) tt;
      resting = rw (r.marks, unmarked_read s (at + 64) r.rest) tt;
    }

-- ---- an entry
entry_right : (s : List ℕ) (at : ℕ) (x : Float) → RootRange x → FloatRead s at x → T (amount s at)
unfolding amount
entry_right s at x g r = rw (r.bits, in_range_plain x (whole (10 ^ 9)) g.number g.plain) g.small

-- ---- the sheet
pub imported_long : (text : List ℕ) (distances : List Float) → DistancesOf (customers_of text) distances → length (sheet_bytes (import_fields text distances)) ≡ import_length (length (customers_of text))
unfolding import_fields import_length
imported_long text distances d = length_sheet (import_fields text distances) ∙ rw (length_rows 0 (customers_of text), d.long)

module _ (text : List ℕ) (distances : List Float) (t : Taken text) (d : DistancesOf (customers_of text) distances) where
  abbrev customers : List Customer
  customers = customers_of text

  abbrev sheet : List ℕ
  sheet = sheet_bytes (import_fields text distances)

  header : HeaderRead sheet (length customers) 1 1 0
  unfolding import_fields
  header = rw (length_rows 0 customers) at (header_back (import_fields text distances) (fields_fit text distances t d))

  row : (i : ℕ) → i < rows_of sheet → RowRanges sheet (row_at i)
  unfolding import_fields
  row i h =
      let l : i < length customers = omega (arith, header.rows) in
      let c = customer_at customers i in
      let none = row_fields_of 0 no_customer in
      row_ranges sheet (row_at i) i c (ranged_at customers t.range i l)
      (subst (RowRead sheet (row_at i)) (row_of customers i none l) (row_back (import_fields text distances) (fields_fit text distances t d) i none (omega (arith, length_rows 0 customers))))

  vehicle : (v : ℕ) → v < vehicles_of sheet → VehicleRanges sheet (vehicle_at sheet v)
  unfolding import_fields
  vehicle v h =
      let none : v ≡ 0 = omega (arith, header.vehicles) in
      rw none (vehicle_ranges sheet (vehicle_at sheet 0) (capacity_of text) t.capacity (vehicle_back (import_fields text distances) (fields_fit text distances t d) 0 (vehicle_fields_of (pos 0)) (omega arith)))

  entries : entries_of sheet ≡ length distances
  entries = rw (header.rows, header.times, d.long) (omega arith)

  entry : (k : ℕ) → k < entries_of sheet → T (amount sheet (entry_at sheet k))
  unfolding import_fields
  entry k h =
      let l : k < length distances = omega (arith, entries) in
      entry_right sheet (entry_at sheet k) (get_or distances k (whole 0)) (entry_range customers distances d t.range k (whole 0) l)
      (entry_back (import_fields text distances) (fields_fit text distances t d) k (whole 0) l)

  long : length sheet ≡ sheet_length sheet
  unfolding import_length
  long = imported_long text distances d ∙ rw (header.rows, header.vehicles, header.times) (omega arith)

  pub imported_accepted : Accepted sheet
  imported_accepted =
      record {
        sized = record {
          rows = omega (arith, header.rows, t.few);
          vehicles = omega (arith, header.vehicles);
          times = omega (arith, header.times);
          long = long;
        };
        spare = header.spare;
        method = omega (arith, header.method);
        row = row;
        entry = entry;
        vehicle = vehicle;
        ids = λ v w h k e. omega (arith, header.vehicles);
        fleet = λ e n. omega (arith, header.vehicles);
      }

  pub imported_planned : refusal_of sheet (plan_length sheet) ≡ 0
  imported_planned = not_refused sheet imported_accepted

-- ---- so what the importer answers is planned
take_written : (lent s : List ℕ) → length s ≤ length lent → take (length s) (write lent 0 s) ≡ s
take_written lent s h = ap (λ (n : ℕ). take n (write lent 0 s)) (sym (zero-add (length s))) ∙ take_write lent 0 s (omega arith)

module _ (text lent : List ℕ) where
  read_right : import_refusal text (length lent) ≡ 0 → text_refusal text ≡ 0
  read_right e = go (text_refusal text) refl
    where
      go : (n : ℕ) → text_refusal text ≡ n → text_refusal text ≡ 0
      go zero h = h
      go (suc n) h = absurd (omega (arith, refusal_told text (length lent) n h))

  room_right : import_refusal text (length lent) ≡ 0 → import_length (length (customers_of text)) ≤ length lent
  room_right e = go (dec_le (import_length (length (customers_of text))) (length lent))
    where
      go : Dec (import_length (length (customers_of text)) ≤ length lent) → import_length (length (customers_of text)) ≤ length lent
      go (yes l) = l
      go (no f) = absurd (omega (arith, refusal_short text (length lent) (read_right e) (lt_of_not-le f)))

  pub import_accepted : (r : ℤ) (out : List ℕ) → ImportAnswered text lent r out → ImportAccepted r out
  import_accepted r out a = go (import_refusal text (length lent)) refl a.number a.bytes
    where
      go : (n : ℕ) → import_refusal text (length lent) ≡ n → r ≡ import_number n (import_length (length (customers_of text))) → ImportBytes n text lent out → ImportAccepted r out
      go (suc n) e h b m i = absurd (pos-ne-negsuc m n (sym i ∙ h))
      go zero e h b m i =
          let sheet = sheet_bytes (import_fields text b.distances) in
          let long = imported_long text b.distances b.closest in
          let room = room_right e in
          let all : take m out ≡ sheet = ap (λ (k : ℕ). take k out) (ap nat_abs (sym i ∙ h) ∙ sym long) ∙ ap (take (length sheet)) b.bytes ∙ take_written lent sheet (omega arith) in
          rw all (imported_planned text b.distances (taken text (read_right e)) b.closest)

  -- "later bytes stay"
  pub later_stay : (r : ℤ) (out : List ℕ) → ImportAnswered text lent r out → (m : ℕ) → r ≡ pos m → drop m out ≡ drop m lent
  later_stay r out a = go (import_refusal text (length lent)) refl a.number a.bytes
    where
      go : (n : ℕ) → import_refusal text (length lent) ≡ n → r ≡ import_number n (import_length (length (customers_of text))) → ImportBytes n text lent out → (m : ℕ) → r ≡ pos m → drop m out ≡ drop m lent
      go (suc n) e h b m i = absurd (pos-ne-negsuc m n (sym i ∙ h))
      go zero e h b m i =
          let sheet = sheet_bytes (import_fields text b.distances) in
          let long = imported_long text b.distances b.closest in
          let room = room_right e in
          let at : m ≡ 0 + length sheet + 0 = ap nat_abs (sym i ∙ h) ∙ sym long ∙ (omega arith) in
          ap (λ (k : ℕ). drop k out) at ∙ ap (drop (0 + length sheet + 0)) b.bytes ∙ drop_write lent 0 sheet (omega arith) 0 ∙ ap (λ (k : ℕ). drop k lent) (sym at)
