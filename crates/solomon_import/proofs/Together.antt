-- Header, rows, vehicle and distances, written one after another, are the sheet (`writing::write_sheet`). Assumes nothing.
use mathlib.Core.Path.{◌≡◌, refl, sym, ap, ◌∙◌, subst}
use Prim.Native.Nat.{ℕ, ◌+◌, ◌*◌, ◌≤◌, ◌<◌}
use native.Mathlib.Nat.{zero-add}
use native.Mathlib.Omega.{arith}
use mathlib.Core.List.{List, ◌++◌, map, append_assoc, append-nil}
use lib.Dec.{T}
use lib.IntN.{ℤ}
use lib.ListN.{length, get_or, length-append, length-map}
use lib.Ieee.{Float}
use Rattle.wire.specs.Bytes.{write}
use Rattle.wire.specs.Laws.Bytes.{write_write, length_write}
use Rattle.numbers.specs.Range.{whole}
use Rattle.sheet.specs.Fields.{header_size, row_size, vehicle_size, most_rows, row_at, x_field, y_field}
use Rattle.sheet.specs.Ranges.{coordinate}
use Rattle.sheet_writer.specs.Sheet.{header_record, row_record, vehicle_record, float_bytes, records_bytes, sheet_bytes}
use Rattle.sheet_writer.specs.declared.RowFields.{RowFields}
use Rattle.sheet_writer.specs.declared.VehicleFields.{VehicleFields}
use Rattle.sheet_writer.specs.Laws.Records.{length_records}
use Rattle.sheet_writer.specs.Laws.Read.{RowFits, RowRead, length_header, length_row, length_vehicle}
use Rattle.sheet_writer.specs.Laws.Sheet.{row_halfway, length_float}
use Rattle.square_root.specs.ClosestRoot.{ClosestRoot}
use Rattle.solomon_distances.specs.Distances.{squared_between, DistancesRoom, DistancesWritten}
use Rattle.solomon_import.specs.Instance.{Customer, customer_of, customers_of, capacity_of}
use Rattle.solomon_import.specs.Import.{customers_range, import_length, marks_at, row_fields_of, rows_fields_from, vehicle_fields_of, import_fields, squared_distance, no_customer, customer_at, SheetWritten}
use Rattle.solomon_text.specs.Lines.{after_first, number_lines}
use Rattle.solomon_import.specs.Reading.{lines_from}
use Rattle.solomon_import.specs.Writing.{records_of}
use Rattle.solomon_import.specs.Laws.Ranged.{Ranged}
use Rattle.solomon_import.specs.Laws.Imported.{length_rows, row_of, ranged_at, ranged_fits, row_fits, marks_small}
use Rattle.solomon_import.specs.Laws.Taken.{Taken}

module _ (text lent : List ℕ) (t : Taken text) (room : import_length (length (customers_of text)) ≤ length lent) where
  abbrev cs : List Customer
  cs = customers_of text

  abbrev n : ℕ
  n = length cs

  abbrev header : List ℕ
  header = header_record n 1 1 0

  abbrev rows : List ℕ
  rows = records_bytes row_record (rows_fields_from 0 cs)

  abbrev vehicle : List ℕ
  vehicle = vehicle_record (vehicle_fields_of (capacity_of text))

  long : header_size + row_size * n + vehicle_size + 8 * (n * n) ≤ length lent
  unfolding import_length
  long = room

  rows_long : length rows ≡ row_size * n
  rows_long = length_records row_record row_size length_row (rows_fields_from 0 cs) ∙ ap (λ (k : ℕ). row_size * k) (length_rows 0 cs)

  header_long : length header ≡ header_size
  header_long = length_header n 1 1 0

  vehicle_long : length vehicle ≡ vehicle_size
  vehicle_long = length_vehicle (vehicle_fields_of (capacity_of text))

  -- the buffer after the header, after the rows, and after the vehicle
  module _ (first second third : List ℕ) (e1 : first ≡ write lent 0 header) (e2 : second ≡ write first header_size rows) (e3 : third ≡ write second (header_size + row_size * n) vehicle) where
    with_rows : second ≡ write lent 0 (header ++ rows)
    with_rows =
        let l = long in
        let h = header_long in
        let r = rows_long in
        e2
        ∙ ap (λ (s : List ℕ). write s header_size rows) e1
        ∙ ap (λ (k : ℕ). write (write lent 0 header) k rows) (sym (zero-add (length header) ∙ h))
        ∙ write_write lent 0 header (omega arith) rows (omega arith)

    pub records_written : third ≡ write lent 0 (records_of text)
    unfolding records_of
    records_written =
        let l = long in
        let h = header_long in
        let r = rows_long in
        let v = vehicle_long in
        let a = length-append header rows in
        let k : header_size + row_size * n ≡ 0 + length (header ++ rows) = omega arith in
        e3
        ∙ ap (λ (s : List ℕ). write s (header_size + row_size * n) vehicle) with_rows
        ∙ ap (λ (k : ℕ). write (write lent 0 (header ++ rows)) k vehicle) k
        ∙ write_write lent 0 (header ++ rows) (omega arith) vehicle (omega arith)

  -- and then the distances
  module _ (third : List ℕ) (with-vehicle : third ≡ write lent 0 (records_of text)) where
    whole_long : length (records_of text) ≡ header_size + row_size * n + vehicle_size
    unfolding records_of
    whole_long = omega (arith, length-append (header ++ rows) vehicle, length-append header rows, header_long, rows_long, vehicle_long)

    third_long : length third ≡ length lent
    third_long = ap length with-vehicle ∙ length_write lent 0 (records_of text) (let w = whole_long in let l = long in omega arith)

    in_range_lem : (i : ℕ) → i < n → Ranged (customer_at cs i)
    in_range_lem i h = ranged_at cs t.range i h

    records_are : records_of text ≡ header ++ (rows ++ vehicle)
    unfolding records_of
    records_are = append_assoc header rows vehicle

    row_stands : (i : ℕ) → i < n → RowRead third (row_at i) (row_fields_of (marks_at i) (customer_at cs i))
    row_stands i h =
        let d = row_fields_of 0 no_customer in
        let w = whole_long in
        let l = long in
        let g : i < length (rows_fields_from 0 cs) = subst (λ (k : ℕ). i < k) (sym (length_rows 0 cs)) h in
        let at : get_or (rows_fields_from 0 cs) i d ≡ row_fields_of (marks_at i) (customer_at cs i) = row_of cs i d h in
        let e : records_of text ≡ header ++ (rows ++ vehicle) = records_are in
        subst (λ (r : RowFields). RowRead third (row_at i) r) at
        (subst (λ (s : List ℕ). RowRead s (row_at i) (get_or (rows_fields_from 0 cs) i d)) (sym (with-vehicle ∙ ap (write lent 0) e))
        (row_halfway n 1 1 0 (rows_fields_from 0 cs) lent vehicle (subst (λ (xs : List ℕ). length xs ≤ length lent) e (omega arith)) i d g
        (subst RowFits (sym at) (row_fits (marks_at i) (customer_at cs i) (marks_small i) (ranged_fits (customer_at cs i) (in_range_lem i h))))))

    x_stands : (i : ℕ) → i < n → x_field third (row_at i) ≡ (customer_at cs i).x
    unfolding row_fields_of
    x_stands i h = (row_stands i h).x

    y_stands : (i : ℕ) → i < n → y_field third (row_at i) ≡ (customer_at cs i).y
    unfolding row_fields_of
    y_stands i h = (row_stands i h).y

    pub room_left : DistancesRoom third n (header_size + row_size * n + vehicle_size)
    room_left = record {
      few = t.few;
      before = (omega arith);
      room = (let l = long in let g = third_long in omega arith);
      across = λ i h. subst (λ (z : ℤ). T (coordinate z)) (sym (x_stands i h)) (in_range_lem i h).x;
      along = λ i h. subst (λ (z : ℤ). T (coordinate z)) (sym (y_stands i h)) (in_range_lem i h).y;
    }

    squared_stands : (i j : ℕ) → i < n → j < n → squared_between third i j ≡ squared_distance (customer_at cs i) (customer_at cs j)
    unfolding squared_between squared_distance
    squared_stands i j h g = rw (x_stands i h, x_stands j g, y_stands i h, y_stands j g) refl

    sheet_is : (distances : List Float) → records_of text ++ records_bytes float_bytes distances ≡ sheet_bytes (import_fields text distances)
    unfolding sheet_bytes import_fields records_bytes records_of
    sheet_is distances =
        let entries = records_bytes float_bytes distances in
        append_assoc (header ++ rows) vehicle entries
        ∙ append_assoc header rows (vehicle ++ entries)
        ∙ ap (λ (k : ℕ). header_record k 1 1 0 ++ (rows ++ (vehicle ++ entries))) (sym (length_rows 0 cs))
        ∙ ap (λ (v : List ℕ). header_record (length (rows_fields_from 0 cs)) 1 1 0 ++ (rows ++ (v ++ entries))) (sym (append-nil vehicle))

    pub all_written : (out : List ℕ) → DistancesWritten third n (header_size + row_size * n + vehicle_size) out → SheetWritten text lent out
    all_written out d = record {
      distances = d.distances;
      closest = record {
        long = d.long;
        closest = λ i j h g. subst (λ (k : ℕ). ClosestRoot k (get_or d.distances (i * n + j) (whole 0))) (squared_stands i j h g) (d.closest i j h g);
      };
      bytes =
          let l = long in
          let w = whole_long in
          let e : length (records_bytes float_bytes d.distances) ≡ 8 * (n * n) = length_records float_bytes 8 length_float d.distances ∙ ap (λ (k : ℕ). 8 * k) d.long in
          d.bytes
          ∙ ap (λ (s : List ℕ). write s (header_size + row_size * n + vehicle_size) (records_bytes float_bytes d.distances)) with-vehicle
          ∙ ap (λ (k : ℕ). write (write lent 0 (records_of text)) k (records_bytes float_bytes d.distances)) (sym (zero-add (length (records_of text)) ∙ w))
          ∙ write_write lent 0 (records_of text) (omega arith) (records_bytes float_bytes d.distances) (omega arith)
          ∙ ap (write lent 0) (sheet_is d.distances);
    }

-- ---- in the code's terms: the rows are counted, and start at a place of the text
module _ (text lent : List ℕ) (rows start : ℕ) (t : Taken text) (counted : rows ≡ length (customers_of text)) (room : import_length rows ≤ length lent) where
  pub enough : header_size + row_size * rows + vehicle_size + 8 * (rows * rows) ≤ length lent
  unfolding import_length
  enough = room

  pub few_rows : rows ≤ most_rows
  few_rows = let f = t.few in omega arith

  enough_for : import_length (length (customers_of text)) ≤ length lent
  enough_for = subst (λ (k : ℕ). import_length k ≤ length lent) counted room

  module _ (lines : lines_from text start ≡ after_first (number_lines text)) where
    customers_are : map customer_of (lines_from text start) ≡ customers_of text
    unfolding customers_of
    customers_are = ap (map customer_of) lines

    pub lines_ranged : T (customers_range (map customer_of (lines_from text start)))
    lines_ranged = subst (λ (cs : List Customer). T (customers_range cs)) (sym customers_are) t.range

    lines_counted : length (lines_from text start) ≡ rows
    lines_counted = sym (length-map (lines_from text start) customer_of) ∙ ap length customers_are ∙ sym counted

    -- the buffer after the header, after the rows, and after the vehicle
    module _ (first : List ℕ) (e1 : first ≡ write lent 0 (header_record rows 1 1 0)) where
      first_long : length first ≡ length lent
      first_long = ap length e1 ∙ length_write lent 0 (header_record rows 1 1 0) (let h = length_header rows 1 1 0 in let e = enough in omega arith)

      pub rows_fit : header_size + row_size * length (lines_from text start) ≤ length first
      rows_fit = let f = first_long in let l = lines_counted in let e = enough in omega arith

      module _ (second : List ℕ) (e2 : second ≡ write first header_size (records_bytes row_record (rows_fields_from 0 (map customer_of (lines_from text start))))) where
        second_long : length second ≡ length lent
        second_long =
            let f = first_long in
            let l = lines_counted in
            let e = enough in
            let r = length_records row_record row_size length_row (rows_fields_from 0 (map customer_of (lines_from text start))) in
            let k = length_rows 0 (map customer_of (lines_from text start)) in
            let m = length-map (lines_from text start) customer_of in
            ap length e2 ∙ length_write first header_size (records_bytes row_record (rows_fields_from 0 (map customer_of (lines_from text start)))) (omega arith) ∙ f

        pub vehicle_fits : header_size + row_size * rows + vehicle_size ≤ length second
        vehicle_fits = let s = second_long in let e = enough in omega arith

        pub records_put : (third : List ℕ) (v : VehicleFields) (capacity : ℤ) → capacity ≡ capacity_of text → v ≡ vehicle_fields_of capacity → third ≡ write second (header_size + row_size * rows) (vehicle_record v) → third ≡ write lent 0 (records_of text)
        records_put third v capacity c w e3 =
            records_written text lent t enough_for first second third
            (e1 ∙ ap (λ (k : ℕ). write lent 0 (header_record k 1 1 0)) counted)
            (e2 ∙ ap (λ (cs : List Customer). write first header_size (records_bytes row_record (rows_fields_from 0 cs))) customers_are)
            (e3 ∙ ap (λ (k : ℕ). write second (header_size + row_size * k) (vehicle_record v)) counted ∙ ap (λ (u : VehicleFields). write second (header_size + row_size * length (customers_of text)) (vehicle_record u)) (w ∙ ap vehicle_fields_of c))

  -- and then the distances
  module _ (third : List ℕ) (e : third ≡ write lent 0 (records_of text)) where
    pub distances_room : DistancesRoom third rows (header_size + row_size * rows + vehicle_size)
    distances_room = subst (λ (k : ℕ). DistancesRoom third k (header_size + row_size * k + vehicle_size)) (sym counted) (room_left text lent t enough_for third e)

    pub sheet_written : (out : List ℕ) → DistancesWritten third rows (header_size + row_size * rows + vehicle_size) out → SheetWritten text lent out
    sheet_written out d = all_written text lent t enough_for third e out (subst (λ (k : ℕ). DistancesWritten third k (header_size + row_size * k + vehicle_size) out) counted d)
