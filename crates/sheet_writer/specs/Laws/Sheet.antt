-- The round trip: a sheet's bytes are read back to the values of its fields, also those of a sheet that is half written. Assumes nothing.
use Rattle.std.specs.Prelude.{◌≡◌, refl, ℕ, ◌+◌, ◌*◌, ◌≤◌, ◌<◌, T, length, get_or, Float}
use Rattle.std.proofs.Common.{subst, arith, length-append}
use mathlib.Core.List.{List, [], ◌++◌, append_assoc, append-nil}
use Rattle.std.specs.Float.{binary64}
use Rattle.std.specs.Float.Ieee.{fits}
use Rattle.wire.specs.Bytes.{write}
use Rattle.wire.specs.Laws.Bytes.{length_bytes}
use Rattle.sheet.specs.Fields.{header_size, row_size, vehicle_size, rows_of, row_at, vehicle_at, tables_at, entry_at}
use Rattle.sheet_writer.specs.Sheet.{SheetFields, float_bytes, header_record, row_record, vehicle_record, records_bytes, sheet_bytes}
use Rattle.sheet_writer.specs.declared.RowFields.{RowFields}
use Rattle.sheet_writer.specs.declared.VehicleFields.{VehicleFields}
use Rattle.sheet_writer.specs.Laws.Stands.{Stands, stands, stands_written}
use Rattle.sheet_writer.specs.Laws.Records.{length_records, stands_record}
use Rattle.sheet_writer.specs.Laws.Read.{RowFits, VehicleFits, FloatRead, HeaderRead, RowRead, VehicleRead, length_header, length_row, length_vehicle, header_read, row_read, vehicle_read, entry_read}

pub length_float : (x : Float) → length (float_bytes x) ≡ 8
length_float x = length_bytes 8 _

-- ---- where a record stands behind a header
module _ (n m method times : ℕ) (rows : List RowFields) where
  abbrev header : List ℕ
  header = header_record n m method times

  abbrev row_block : List ℕ
  row_block = records_bytes row_record rows

  stands_row : (more : List ℕ) (i : ℕ) (d : RowFields) → i < length rows → Stands (header ++ (row_block ++ more)) (row_at i) (row_record (get_or rows i d))
  stands_row more = stands_record row_record row_size length_row header more header_size (length_header n m method times) rows

  length_rows : length (header ++ row_block) ≡ header_size + row_size * length rows
  length_rows = omega (arith, length-append header row_block, length_header n m method times, length_records row_record row_size length_row rows)

  -- record i of those that start behind the rows and what follows these
  module _ (between : List ℕ) (start : ℕ) (e : start ≡ header_size + row_size * length rows + length between) where
    stands_after : {A : Type 0} (f : A → List ℕ) (w : ℕ) → ((x : A) → length (f x) ≡ w) → (xs : List A) (more : List ℕ) (i : ℕ) (d : A) → i < length xs → Stands (header ++ (row_block ++ (between ++ (records_bytes f xs ++ more)))) (start + w * i) (f (get_or xs i d))
    stands_after f w even xs more i d h =
        subst (λ (l : List ℕ). Stands l (start + w * i) (f (get_or xs i d))) (simp append_assoc)
        (stands_record f w even (header ++ row_block ++ between) more start (omega (arith, length-append (header ++ row_block) between, length_rows)) xs i d h)

    stands_entry : (es : List Float) (k : ℕ) (d : Float) → k < length es → Stands (header ++ (row_block ++ (between ++ records_bytes float_bytes es))) (start + 8 * k) (float_bytes (get_or es k d))
    stands_entry es k d h =
        subst (λ (l : List ℕ). Stands (header ++ (row_block ++ (between ++ l))) (start + 8 * k) (float_bytes (get_or es k d))) (append-nil (records_bytes float_bytes es))
        (stands_after float_bytes 8 length_float es [] k d h)

    -- an entry, while the sheet is half written into a buffer
    pub entry_halfway : (lent : List ℕ) (es : List Float) → length (header ++ (row_block ++ (between ++ records_bytes float_bytes es))) ≤ length lent → (k : ℕ) (d : Float) → k < length es → T (fits binary64 (get_or es k d)) → FloatRead (write lent 0 (header ++ (row_block ++ (between ++ records_bytes float_bytes es)))) (start + 8 * k) (get_or es k d)
    entry_halfway lent es room k d h f =
        entry_read _ (start + 8 * k) (get_or es k d) f (stands_written lent _ (start + 8 * k) (float_bytes (get_or es k d)) room (stands_entry es k d h))

  -- a row, likewise
  pub row_halfway : (lent more : List ℕ) → length (header ++ (row_block ++ more)) ≤ length lent → (i : ℕ) (d : RowFields) → i < length rows → RowFits (get_or rows i d) → RowRead (write lent 0 (header ++ (row_block ++ more))) (row_at i) (get_or rows i d)
  row_halfway lent more room i d h f =
      row_read _ (row_at i) (get_or rows i d) f (stands_written lent _ (row_at i) (row_record (get_or rows i d)) room (stands_row more i d h))

-- ---- the whole sheet
pub record FieldsFit (f : SheetFields) : Type 0 where
  pub rows : length f.rows < 65536
  pub vehicles : length f.vehicles < 65536
  pub method : f.method < 256
  pub times : f.times < 256
  pub row : (i : ℕ) (d : RowFields) → i < length f.rows → RowFits (get_or f.rows i d)
  pub vehicle : (v : ℕ) (d : VehicleFields) → v < length f.vehicles → VehicleFits (get_or f.vehicles v d)
  pub entry : (k : ℕ) (d : Float) → k < length f.entries → T (fits binary64 (get_or f.entries k d))

pub length_sheet : (f : SheetFields) → length (sheet_bytes f) ≡ header_size + row_size * length f.rows + vehicle_size * length f.vehicles + 8 * length f.entries
unfolding sheet_bytes
length_sheet f =
    let header = header_record (length f.rows) (length f.vehicles) f.method f.times in
    let rows = records_bytes row_record f.rows in
    let vehicles = records_bytes vehicle_record f.vehicles in
    let entries = records_bytes float_bytes f.entries in
    let a = length_rows (length f.rows) (length f.vehicles) f.method f.times f.rows in
    let b = length_records vehicle_record vehicle_size length_vehicle f.vehicles in
    let c = length_records float_bytes 8 length_float f.entries in
    omega (arith, length-append header (rows ++ (vehicles ++ entries)), length-append rows (vehicles ++ entries), length-append vehicles entries, length-append header rows)

module _ (f : SheetFields) (fit : FieldsFit f) where
  abbrev s : List ℕ
  s = sheet_bytes f

  pub header_back : HeaderRead s (length f.rows) (length f.vehicles) f.method f.times
  unfolding sheet_bytes
  header_back =
      let header = header_record (length f.rows) (length f.vehicles) f.method f.times in
      header_read s (length f.rows) (length f.vehicles) f.method f.times fit.rows fit.vehicles fit.method fit.times (stands [] header _ 0 refl)

  pub row_back : (i : ℕ) (d : RowFields) → i < length f.rows → RowRead s (row_at i) (get_or f.rows i d)
  unfolding sheet_bytes
  row_back i d h =
      row_read s (row_at i) (get_or f.rows i d) (fit.row i d h) (stands_row (length f.rows) (length f.vehicles) f.method f.times f.rows _ i d h)

  pub vehicle_back : (v : ℕ) (d : VehicleFields) → v < length f.vehicles → VehicleRead s (vehicle_at s v) (get_or f.vehicles v d)
  unfolding sheet_bytes
  vehicle_back v d h =
      vehicle_read s (vehicle_at s v) (get_or f.vehicles v d) (fit.vehicle v d h)
      (stands_after (length f.rows) (length f.vehicles) f.method f.times f.rows [] (header_size + row_size * rows_of s) (omega (arith, header_back.rows)) vehicle_record vehicle_size length_vehicle f.vehicles _ v d h)

  pub entry_back : (k : ℕ) (d : Float) → k < length f.entries → FloatRead s (entry_at s k) (get_or f.entries k d)
  unfolding sheet_bytes
  entry_back k d h =
      entry_read s (entry_at s k) (get_or f.entries k d) (fit.entry k d h)
      (stands_entry (length f.rows) (length f.vehicles) f.method f.times f.rows (records_bytes vehicle_record f.vehicles) (tables_at s) (omega (arith, header_back.rows, header_back.vehicles, length_records vehicle_record vehicle_size length_vehicle f.vehicles)) f.entries k d h)
