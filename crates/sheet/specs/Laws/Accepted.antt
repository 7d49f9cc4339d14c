-- What an accepted sheet is: each range of document 01 a named clause. The refusal is 0 exactly for these sheets, with a plan buffer of the exact length.
use Rattle.std.specs.Prelude.{◌≡◌, refl, ℕ, suc, ◌^◌, ◌≤◌, ◌<◌, Bool, true, false, ◌&&◌, List, leb, ltb, eqb, length}
use Rattle.std.proofs.Common.{sym, subst, arith, eq-eqb}
use Rattle.std.proofs.Math.Bool.{not}
use Rattle.std.proofs.Math.Dec.{T, leb→le, le→leb, eqb→eq, T_not, not_T}
use Rattle.std.specs.Float.Ieee.Fits.{and_l, and_r}
use Rattle.std.proofs.Math.Facts.{yes_and}
use Rattle.numbers.specs.Range.{whole}
use Rattle.numbers.specs.Laws.All.{all_at, all_of}
use Rattle.sheet.specs.Fields.{rows_of, vehicles_of, method_of, times_of, spare_of, row_at, x_field, y_field, demand_field, row_marks, service_at, ready_at, vehicle_at, id_field, depot_field, capacity_field, vehicle_marks, cost_at, fixed_at, max_distance_at, earliest_at, entries_of, entry_at, sheet_length, plan_length, marked, header_size, most_rows, most_vehicles}
use Rattle.sheet.specs.Depots.{depots_of}
use Rattle.sheet.specs.Ranges.{coordinate, demand, capacity, marks, vehicle_marking, amount, optional, interval, cost_per_distance, serving_in_range, row_in_range, maxima_in_range, rest_in_range, vehicle_in_range, same_id, new_id, rows_in_range, entries_in_range, vehicles_in_range}
use Rattle.sheet.specs.Refusal.{header_right, counts_right, method_right, lengths_right, needs_vehicle, fleet_right, unless, contents, refusal_of}
use Rattle.sheet.specs.Accepted.{RowRanges, VehicleRanges, Sized, Accepted}

-- ---- a test of several parts, and its parts
row_ranges : (s : List ℕ) (at : ℕ) → T (row_in_range s at) → RowRanges s at
unfolding row_in_range serving_in_range
row_ranges s at t =
    let b = and_r (coordinate (x_field s at)) _ t in
    let c = and_r (coordinate (y_field s at)) _ b in
    let d = and_r (demand (demand_field s at)) _ c in
    let e = and_r (marks (row_marks s at)) _ d in
    let f = and_r (amount s (service_at at)) _ e in
    record {
      x = and_l (coordinate (x_field s at)) _ t;
      y = and_l (coordinate (y_field s at)) _ b;
      demanded = and_l (demand (demand_field s at)) _ c;
      marking = and_l (marks (row_marks s at)) _ d;
      service = and_l (amount s (service_at at)) _ e;
      window = and_l (interval (marked 2 (row_marks s at)) s (ready_at at)) _ f;
      penalty = and_r (interval (marked 2 (row_marks s at)) s (ready_at at)) _ f;
    }

ranges_row : (s : List ℕ) (at : ℕ) → RowRanges s at → T (row_in_range s at)
unfolding row_in_range serving_in_range
ranges_row s at r =
    yes_and (coordinate (x_field s at)) _ r.x
    (yes_and (coordinate (y_field s at)) _ r.y
    (yes_and (demand (demand_field s at)) _ r.demanded
    (yes_and (marks (row_marks s at)) _ r.marking
    (yes_and (amount s (service_at at)) _ r.service
    (yes_and (interval (marked 2 (row_marks s at)) s (ready_at at)) _ r.window r.penalty)))))

vehicle_ranges : (s : List ℕ) (at : ℕ) → T (vehicle_in_range s at) → VehicleRanges s at
unfolding vehicle_in_range maxima_in_range rest_in_range
vehicle_ranges s at t =
    let b = and_r (ltb (depot_field s at) (depots_of s)) _ t in
    let c = and_r (capacity (capacity_field s at)) _ b in
    let d = and_r (vehicle_marking (vehicle_marks s at)) _ c in
    let e = and_r (cost_per_distance s (cost_at at)) _ d in
    let f = and_r (amount s (fixed_at at)) _ e in
    let g = and_l (maxima_in_range s at) _ f in
    let h = and_r (maxima_in_range s at) _ f in
    record {
      depot = leb→le _ _ (and_l (ltb (depot_field s at) (depots_of s)) _ t);
      carries = and_l (capacity (capacity_field s at)) _ b;
      marking = and_l (vehicle_marking (vehicle_marks s at)) _ c;
      cost = and_l (cost_per_distance s (cost_at at)) _ d;
      fixed = and_l (amount s (fixed_at at)) _ e;
      distance = and_l (optional (marked 1 (vehicle_marks s at)) (whole (10 ^ 12)) s (max_distance_at at)) _ g;
      duration = and_r (optional (marked 1 (vehicle_marks s at)) (whole (10 ^ 12)) s (max_distance_at at)) _ g;
      rest = and_l (interval (marked 4 (vehicle_marks s at)) s (earliest_at at)) _ h;
      resting = and_r (interval (marked 4 (vehicle_marks s at)) s (earliest_at at)) _ h;
    }

ranges_vehicle : (s : List ℕ) (at : ℕ) → VehicleRanges s at → T (vehicle_in_range s at)
unfolding vehicle_in_range maxima_in_range rest_in_range
ranges_vehicle s at r =
    yes_and (ltb (depot_field s at) (depots_of s)) _ (le→leb (suc (depot_field s at)) (depots_of s) r.depot)
    (yes_and (capacity (capacity_field s at)) _ r.carries
    (yes_and (vehicle_marking (vehicle_marks s at)) _ r.marking
    (yes_and (cost_per_distance s (cost_at at)) _ r.cost
    (yes_and (amount s (fixed_at at)) _ r.fixed
    (yes_and (maxima_in_range s at) _
    (yes_and (optional (marked 1 (vehicle_marks s at)) (whole (10 ^ 12)) s (max_distance_at at)) _ r.distance r.duration)
    (yes_and (interval (marked 4 (vehicle_marks s at)) s (earliest_at at)) _ r.rest r.resting))))))

-- ---- the tests of the table, passed one after the other
past : (t : Bool) (n k : ℕ) → unless t (suc n) k ≡ 0 → T t × (k ≡ 0)
past true n k h = (tt, h)
past false n k h = absurd (omega arith)

passes : (t : Bool) (n k : ℕ) → T t → k ≡ 0 → unless t n k ≡ 0
passes true n k t h = h
passes false n k t h = absurd t

-- the ids before v differ from its own, both ways
module _ (s : List ℕ) (v : ℕ) where
  new_id_lem : T (new_id s v) → (w : ℕ) → w < v → id_field s (vehicle_at s w) ≡ id_field s (vehicle_at s v) → ⊥
  unfolding new_id same_id
  new_id_lem t w h e = T_not (same_id s v w) (all_at (λ (k : ℕ). not (same_id s v k)) v w h t) (subst T (sym (eq-eqb (id_field s (vehicle_at s w)) (id_field s (vehicle_at s v)) e)) tt)

  id_new : ((w : ℕ) → w < v → id_field s (vehicle_at s w) ≡ id_field s (vehicle_at s v) → ⊥) → T (new_id s v)
  unfolding new_id same_id
  id_new f = all_of (λ (k : ℕ). not (same_id s v k)) v (λ w h. not_T (same_id s v w) (λ t. f w h (eqb→eq (id_field s (vehicle_at s w)) (id_field s (vehicle_at s v)) t)))

module _ (s : List ℕ) where
  row_of : T (rows_in_range s) → (i : ℕ) → i < rows_of s → RowRanges s (row_at i)
  unfolding rows_in_range
  row_of t i h = row_ranges s (row_at i) (all_at (λ (k : ℕ). row_in_range s (row_at k)) (rows_of s) i h t)

  entry_of : T (entries_in_range s) → (k : ℕ) → k < entries_of s → T (amount s (entry_at s k))
  unfolding entries_in_range
  entry_of t k h = all_at (λ (j : ℕ). amount s (entry_at s j)) (entries_of s) k h t

  vehicle_of_lem : T (vehicles_in_range s) → (v : ℕ) → v < vehicles_of s → T (vehicle_in_range s (vehicle_at s v) && new_id s v)
  unfolding vehicles_in_range
  vehicle_of_lem t v h = all_at (λ (k : ℕ). vehicle_in_range s (vehicle_at s k) && new_id s k) (vehicles_of s) v h t

  fleet_of_lem : T (fleet_right s) → vehicles_of s ≡ 0 → T (needs_vehicle (method_of s)) → ⊥
  unfolding fleet_right
  fleet_of_lem t e n = T_not _ t (yes_and (eqb (vehicles_of s) 0) (needs_vehicle (method_of s)) (subst T (sym (eq-eqb (vehicles_of s) 0 e)) tt) n)

  pub header_of : T (header_right s) → (header_size ≤ length s) × (times_of s ≤ 1) × (spare_of s ≡ 0)
  unfolding header_right
  header_of t =
      let u = and_r (leb header_size (length s)) _ t in
      (leb→le header_size (length s) (and_l (leb header_size (length s)) _ t), leb→le (times_of s) 1 (and_l (leb (times_of s) 1) _ u), eqb→eq (spare_of s) 0 (and_r (leb (times_of s) 1) _ u))

  pub counts_of : T (counts_right s) → (rows_of s ≤ most_rows) × (vehicles_of s ≤ most_vehicles)
  unfolding counts_right
  counts_of t = (leb→le (rows_of s) most_rows (and_l (leb (rows_of s) most_rows) _ t), leb→le (vehicles_of s) most_vehicles (and_r (leb (rows_of s) most_rows) _ t))

  method_of_lem : T (method_right s) → method_of s ≤ 4
  unfolding method_right
  method_of_lem t = leb→le (method_of s) 4 t

  lengths_of : (m : ℕ) → T (lengths_right s m) → (length s ≡ sheet_length s) × (m ≡ plan_length s)
  unfolding lengths_right
  lengths_of m t =
      (eqb→eq (length s) (sheet_length s) (and_l (eqb (length s) (sheet_length s)) _ t), eqb→eq m (plan_length s) (and_r (eqb (length s) (sheet_length s)) _ t))

-- the header's, the counts' and the lengths' tests leave every field within the bytes
pub sized : (s : List ℕ) (m : ℕ) → T (header_right s) → T (counts_right s) → T (lengths_right s m) → Sized s
sized s m a b d = record { rows = (counts_of s b).0; vehicles = (counts_of s b).1; times = (header_of s a).1; long = (lengths_of s m d).0 }

-- what is not refused satisfies every range
pub accepted : (s : List ℕ) (m : ℕ) → refusal_of s m ≡ 0 → Accepted s × (m ≡ plan_length s)
unfolding refusal_of contents
accepted s m h =
    let a = past (header_right s) 0 _ h in
    let b = past (counts_right s) 1 _ a.1 in
    let c = past (method_right s) 2 _ b.1 in
    let d = past (lengths_right s m) 3 _ c.1 in
    let e = past (rows_in_range s) 4 _ d.1 in
    let f = past (entries_in_range s) 5 _ e.1 in
    let g = past (vehicles_in_range s) 6 _ f.1 in
    let i = past (fleet_right s) 7 _ g.1 in
    let l = lengths_of s m d.0 in (
      record {
        sized = sized s m a.0 b.0 d.0;
        spare = (header_of s a.0).2;
        method = method_of_lem s c.0;
        row = row_of s e.0;
        entry = entry_of s f.0;
        vehicle = λ v k. vehicle_ranges s (vehicle_at s v) (and_l (vehicle_in_range s (vehicle_at s v)) _ (vehicle_of_lem s g.0 v k));
        ids = λ v w k. new_id_lem s v (and_r (vehicle_in_range s (vehicle_at s v)) _ (vehicle_of_lem s g.0 v k)) w;
        fleet = fleet_of_lem s i.0;
      },
      l.1,
    )

-- what satisfies every range is not refused
module _ (s : List ℕ) (a : Accepted s) where
  header_right_lem : T (header_right s)
  unfolding header_right
  header_right_lem =
      yes_and (leb header_size (length s)) _ (le→leb header_size (length s) (omega (arith, a.sized.long)))
      (yes_and (leb (times_of s) 1) _ (le→leb (times_of s) 1 a.sized.times) (subst T (sym (eq-eqb (spare_of s) 0 a.spare)) tt))

  counts_right_lem : T (counts_right s)
  unfolding counts_right
  counts_right_lem = yes_and (leb (rows_of s) most_rows) _ (le→leb (rows_of s) most_rows a.sized.rows) (le→leb (vehicles_of s) most_vehicles a.sized.vehicles)

  method_right_lem : T (method_right s)
  unfolding method_right
  method_right_lem = le→leb (method_of s) 4 a.method

  lengths_right_lem : T (lengths_right s (plan_length s))
  unfolding lengths_right
  lengths_right_lem =
      yes_and (eqb (length s) (sheet_length s)) _ (subst T (sym (eq-eqb (length s) (sheet_length s) a.sized.long)) tt)
      (subst T (sym (eq-eqb (plan_length s) (plan_length s) refl)) tt)

  rows_right : T (rows_in_range s)
  unfolding rows_in_range
  rows_right = all_of (λ (i : ℕ). row_in_range s (row_at i)) (rows_of s) (λ i h. ranges_row s (row_at i) (a.row i h))

  entries_right : T (entries_in_range s)
  unfolding entries_in_range
  entries_right = all_of (λ (k : ℕ). amount s (entry_at s k)) (entries_of s) a.entry

  vehicles_right : T (vehicles_in_range s)
  unfolding vehicles_in_range
  vehicles_right =
      all_of (λ (v : ℕ). vehicle_in_range s (vehicle_at s v) && new_id s v) (vehicles_of s)
      (λ v h. yes_and (vehicle_in_range s (vehicle_at s v)) (new_id s v) (ranges_vehicle s (vehicle_at s v) (a.vehicle v h)) (id_new s v (λ w k. a.ids v w h k)))

  fleet_right_lem : T (fleet_right s)
  unfolding fleet_right
  fleet_right_lem =
      not_T (eqb (vehicles_of s) 0 && needs_vehicle (method_of s))
      (λ t. a.fleet (eqb→eq (vehicles_of s) 0 (and_l (eqb (vehicles_of s) 0) _ t)) (and_r (eqb (vehicles_of s) 0) _ t))

  pub not_refused : refusal_of s (plan_length s) ≡ 0
  unfolding refusal_of contents
  not_refused =
      passes (header_right s) 1 _ header_right_lem
      (passes (counts_right s) 2 _ counts_right_lem
      (passes (method_right s) 3 _ method_right_lem
      (passes (lengths_right s (plan_length s)) 4 _ lengths_right_lem
      (passes (rows_in_range s) 5 _ rows_right
      (passes (entries_in_range s) 6 _ entries_right
      (passes (vehicles_in_range s) 7 _ vehicles_right
      (passes (fleet_right s) 8 0 fleet_right_lem refl)))))))
