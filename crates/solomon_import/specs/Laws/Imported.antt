-- The values of an imported sheet's fields: each row is its customer's, each entry a root, and every field holds its value. Assumes nothing.
use Rattle.std.specs.Prelude.{◌≡◌, refl, ℕ, zero, suc, ◌+◌, ◌*◌, ◌/◌, ◌%◌, ◌^◌, ◌≤◌, ◌<◌, false, List, [], ◌∷◌, T, ℤ, pos, negsuc, nat_abs, ◌-ℤ◌, length, get_or, Float}
use Rattle.std.proofs.Common.{sym, ap, ◌∙◌, subst, add-zero, mul-le-mul, div-add-mod', arith, leb→le, le→leb, lit≤}
use Rattle.std.specs.Int.Signed.{mag}
use Rattle.std.specs.Float.{binary64}
use Rattle.std.specs.Float.Ieee.{fits, le}
use Rattle.std.specs.Float.Ieee.Fits.{round-fits}
use Rattle.std.specs.Float.Ieee.Positive.{first_pos}
use Rattle.std.proofs.lemmas.Nat.{div_below, mod_below}
use Rattle.numbers.specs.Range.{whole}
use Rattle.lists.specs.Laws.Every.{every_of, every_at}
use Rattle.solomon_text.specs.Numbers.{is_up_to}
use Rattle.square_root.specs.ClosestRoot.{ClosestRoot, unsigned_finite}
use Rattle.square_root.specs.Laws.Closest.{closest_at_most}
use Rattle.sheet_writer.specs.declared.RowFields.{RowFields}
use Rattle.sheet_writer.specs.declared.VehicleFields.{VehicleFields}
use Rattle.sheet_writer.specs.Laws.Read.{RowFits, VehicleFits}
use Rattle.sheet_writer.specs.Laws.Sheet.{FieldsFit}
use Rattle.solomon_distances.specs.Laws.Differences.{abs_bounded}
use Rattle.solomon_import.specs.Instance.{Customer, customers_of, capacity_of}
use Rattle.solomon_import.specs.Import.{customers_range, marks_at, row_fields_of, rows_fields_from, vehicle_fields_of, import_fields, squared_distance, customer_at, DistancesOf}
use Rattle.solomon_import.specs.Laws.Ranged.{Ranged, ranged, first_ranged, rest_ranged, coordinate_size, demand_size, up_to_size}
use Rattle.solomon_import.specs.Laws.Taken.{Taken}

-- ---- rows
pub length_rows : (i : ℕ) (cs : List Customer) → length (rows_fields_from i cs) ≡ length cs
unfolding rows_fields_from
length_rows i [] = refl
length_rows i (c ∷ cs) = ap suc (length_rows (i + 1) cs)

row_from : (from : ℕ) (cs : List Customer) (i : ℕ) (d : RowFields) → i < length cs → get_or (rows_fields_from from cs) i d ≡ row_fields_of (marks_at (from + i)) (customer_at cs i)
unfolding rows_fields_from
row_from from [] i d h = absurd (omega arith)
row_from from (c ∷ cs) zero d h = ap (λ (k : ℕ). row_fields_of (marks_at k) c) (sym (add-zero from))
row_from from (c ∷ cs) (suc i) d h =
    let e : from + 1 + i ≡ from + suc i = omega arith in
    row_from (from + 1) cs i d (omega arith) ∙ ap (λ (k : ℕ). row_fields_of (marks_at k) (customer_at cs i)) e

pub row_of : (cs : List Customer) (i : ℕ) (d : RowFields) → i < length cs → get_or (rows_fields_from 0 cs) i d ≡ row_fields_of (marks_at i) (customer_at cs i)
row_of cs i d h = let e : 0 + i ≡ i = omega arith in row_from 0 cs i d h ∙ ap (λ (k : ℕ). row_fields_of (marks_at k) (customer_at cs i)) e

pub ranged_at : (cs : List Customer) → T (customers_range cs) → (i : ℕ) → i < length cs → Ranged (customer_at cs i)
ranged_at [] r i h = absurd (omega arith)
ranged_at (c ∷ cs) r zero h = ranged c (first_ranged c cs r)
ranged_at (c ∷ cs) r (suc i) h = ranged_at cs (rest_ranged c cs r) i (omega arith)

-- ---- distances
-- entry k of a table of n rows stands in row k / n, at k % n
module _ (cs : List Customer) (table : List Float) (t : DistancesOf cs table) (k : ℕ) (h : k < length table) where
  place : (k / length cs < length cs) × (k % length cs < length cs)
  place =
      let n = length cs in
      let few : 0 < n = first_pos n n (omega (arith, t.long)) in
      (div_below k n n few (omega (arith, t.long)), mod_below k n few)

  abbrev from : Customer
  from = customer_at cs (k / length cs)

  abbrev to : Customer
  to = customer_at cs (k % length cs)

  pub closest_entry : ClosestRoot (squared_distance from to) (get_or table k (whole 0))
  closest_entry =
      subst (λ (j : ℕ). ClosestRoot (squared_distance from to) (get_or table j (whole 0))) (div-add-mod' k (length cs))
      (t.closest (k / length cs) (k % length cs) place.0 place.1)

squared_small : (a b : Customer) → Ranged a → Ranged b → squared_distance a b ≤ 10 ^ 9 * 10 ^ 9
unfolding squared_distance
squared_small a b g h =
    let x : nat_abs (a.x -ℤ b.x) ≤ 2000000 = omega (arith, abs_bounded a.x b.x, coordinate_size a.x g.x, coordinate_size b.x h.x) in
    let y : nat_abs (a.y -ℤ b.y) ≤ 2000000 = omega (arith, abs_bounded a.y b.y, coordinate_size a.y g.y, coordinate_size b.y h.y) in
    let xx = mul-le-mul x x in
    let yy = mul-le-mul y y in
    omega arith

-- an entry that a sheet takes
pub record RootRange (x : Float) : Type 0 where
  pub number : T (fits binary64 x)
  pub plain : T (unsigned_finite x)
  pub small : T (le x (whole (10 ^ 9)))

pub entry_range : (cs : List Customer) (table : List Float) → DistancesOf cs table → T (customers_range cs) → (k : ℕ) (d : Float) → k < length table → RootRange (get_or table k d)
entry_range cs table t r k d h = every_at RootRange d table k h (every_of RootRange (whole 0) table one)
  where
    one : (k : ℕ) → k < length table → RootRange (get_or table k (whole 0))
    one k h =
        let a = from cs table t k h in
        let b = to cs table t k h in
        let p = place cs table t k h in
        let c = closest_entry cs table t k h in
        record {
          number = c.number;
          plain = c.plain;
          small = closest_at_most (squared_distance a b) (10 ^ 9) (get_or table k (whole 0)) (lit≤ tt) (squared_small a b (ranged_at cs r _ p.0) (ranged_at cs r _ p.1)) c;
        }

-- ---- each field holds its value
-- the numbers of a customer that is written as a row, in range or not
pub record CustomerFits (c : Customer) : Type 0 where
  pub x : nat_abs c.x ≤ 0x7fff_ffff
  pub y : nat_abs c.y ≤ 0x7fff_ffff
  pub demand : nat_abs c.demand ≤ 0x7fff_ffff
  pub ready : T (is_up_to (2 ^ 53) c.ready)
  pub due : T (is_up_to (2 ^ 53) c.due)
  pub service : T (is_up_to (2 ^ 53) c.service)

up_to_more : (z : ℤ) → T (is_up_to (10 ^ 9) z) → T (is_up_to (2 ^ 53) z)
up_to_more (pos n) h = le→leb n (2 ^ 53) (omega (arith, leb→le n (10 ^ 9) h))
up_to_more (negsuc n) h = h

pub ranged_fits : (c : Customer) → Ranged c → CustomerFits c
ranged_fits c h =
    record {
      x = omega (arith, coordinate_size c.x h.x);
      y = omega (arith, coordinate_size c.y h.y);
      demand = omega (arith, demand_size c.demand h.demanded);
      ready = up_to_more c.ready h.ready;
      due = up_to_more c.due h.due;
      service = up_to_more c.service h.service;
    }

mag_small : (z : ℤ) → nat_abs z ≤ 0x7fff_ffff → mag z < 0x8000_0000
mag_small (pos n) h = omega arith
mag_small (negsuc n) h = omega arith

pub row_fits : (marks : ℕ) (c : Customer) → marks ≤ 7 → CustomerFits c → RowFits (row_fields_of marks c)
unfolding row_fields_of
row_fits marks c m f =
    record {
      x = mag_small c.x f.x;
      y = mag_small c.y f.y;
      demand = mag_small c.demand f.demand;
      marks = omega arith;
      service = round-fits binary64 false (nat_abs c.service) 1;
      ready = round-fits binary64 false (nat_abs c.ready) 1;
      due = round-fits binary64 false (nat_abs c.due) 1;
      penalty = round-fits binary64 false 0 1;
    }

vehicle_fits : (capacity : ℤ) → nat_abs capacity ≤ 0x7fff_ffff → VehicleFits (vehicle_fields_of capacity)
unfolding vehicle_fields_of
vehicle_fits capacity h =
    let none = round-fits binary64 false 0 1 in
    record {
      id = omega arith;
      depot = omega arith;
      capacity = mag_small capacity h;
      marks = omega arith;
      cost = round-fits binary64 false 1 1;
      fixed = none;
      distance = none;
      duration = none;
      earliest = none;
      latest = none;
      rest = none;
    }

pub marks_small : (i : ℕ) → marks_at i ≤ 7
marks_small zero = omega arith
marks_small (suc i) = omega arith

pub fields_fit : (text : List ℕ) (distances : List Float) → Taken text → DistancesOf (customers_of text) distances → FieldsFit (import_fields text distances)
unfolding import_fields
fields_fit text distances t d =
    let cs = customers_of text in
    record {
      rows = omega (arith, length_rows 0 cs, t.few);
      vehicles = omega arith;
      method = omega arith;
      times = omega arith;
      row = λ i e h.
          let l : i < length cs = omega (arith, length_rows 0 cs) in
          subst RowFits (sym (row_of cs i e l)) (row_fits (marks_at i) (customer_at cs i) (marks_small i) (ranged_fits (customer_at cs i) (ranged_at cs t.range i l)));
      vehicle = only (capacity_of text) (up_to_size 0x7fff_ffff (capacity_of text) t.capacity);
      entry = λ k e h. (entry_range cs distances d t.range k e h).number;
    }
  where
    only : (capacity : ℤ) → nat_abs capacity ≤ 0x7fff_ffff → (v : ℕ) (e : VehicleFields) → v < 1 → VehicleFits (get_or (vehicle_fields_of capacity ∷ []) v e)
    only capacity h zero e l = vehicle_fits capacity h
    only capacity h (suc v) e l = absurd (omega arith)
