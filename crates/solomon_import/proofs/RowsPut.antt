-- The loop that writes a text's rows (`writing::write_rows`). Assumes nothing.
use mathlib.Core.Path.{◌≡◌, refl, sym, ap, ◌∙◌, subst}
use Prim.Native.Nat.{ℕ, ◌+◌, ◌*◌, ◌≤◌, ◌<◌}
use native.Mathlib.Numerals.{add-one}
use native.Mathlib.Omega.{arith}
use mathlib.Core.List.{List, [], ◌∷◌, ◌++◌, map, append_assoc, append-nil}
use lib.Dec.{T}
use lib.ListN.{length, drop, length-append}
use lib.Seq.{drop-length}
use Rattle.wire.specs.Bytes.{write}
use Rattle.wire.specs.Laws.Bytes.{write_write, length_write, write_none}
use Rattle.sheet.specs.Fields.{header_size, row_size}
use Rattle.sheet_writer.specs.Sheet.{row_record, records_bytes}
use Rattle.sheet_writer.specs.Laws.Records.{records_more, length_records}
use Rattle.sheet_writer.specs.Laws.Read.{length_row}
use Rattle.sheet_writer.specs.declared.RowFields.{RowFields}
use Rattle.solomon_text.specs.Lines.{lines_of, first_line, after_first, has_digit, digit_lines}
use Rattle.solomon_text.specs.Laws.Lines.{digit_line_first, no_digit_line}
use Rattle.solomon_import.specs.Instance.{customer_of}
use Rattle.solomon_import.specs.Import.{customer_range, customers_range, marks_at, row_fields_of, rows_fields_from}
use Rattle.solomon_import.specs.Reading.{lines_from, Onward}
use Rattle.solomon_import.specs.Laws.Ranged.{first_ranged, rest_ranged}
use Rattle.solomon_import.proofs.RowLines.{line_and_rest}

-- the rows of the lines from `from` to `at` stand in the sheet, so many
pub record RowsPut (text : List ℕ) (from : ℕ) (lent : List ℕ) (sheet : List ℕ) (at place marks : ℕ) : Type 0 where
  pub rows : List RowFields
  pub within : at ≤ length text
  pub digit : at < length text → T (has_digit (first_line (drop at text)))
  pub placed : place ≡ header_size + row_size * length rows
  pub marking : marks ≡ marks_at (length rows)
  pub all : rows_fields_from 0 (map customer_of (lines_from text from)) ≡ rows ++ rows_fields_from (length rows) (map customer_of (lines_from text at))
  pub range : T (customers_range (map customer_of (lines_from text at)))
  pub room : header_size + row_size * (length rows + length (lines_from text at)) ≤ length lent
  pub written : sheet ≡ write lent header_size (records_bytes row_record rows)

pub none_put : (text : List ℕ) (from : ℕ) (lent : List ℕ) → from ≤ length text → (from < length text → T (has_digit (first_line (drop from text)))) → T (customers_range (map customer_of (lines_from text from))) → header_size + row_size * length (lines_from text from) ≤ length lent → RowsPut text from lent lent from header_size 3
unfolding records_bytes
none_put text from lent w d h r = record { rows = []; within = w; digit = d; placed = refl; marking = refl; all = refl; range = h; room = (omega arith); written = write_none lent header_size }

-- the bytes of rows are as long as they are
rows_long : (rows : List RowFields) → length (records_bytes row_record rows) ≡ row_size * length rows
rows_long rows = length_records row_record row_size length_row rows

pub put_long : (text : List ℕ) (from : ℕ) (lent sheet : List ℕ) (at place marks : ℕ) → RowsPut text from lent sheet at place marks → length sheet ≡ length lent
put_long text from lent sheet at place marks p =
    let r = p.room in
    let g = rows_long p.rows in
    ap length p.written ∙ length_write lent header_size (records_bytes row_record p.rows) (omega arith)

module _ (text : List ℕ) (from : ℕ) (lent sheet : List ℕ) (at place marks : ℕ) (p : RowsPut text from lent sheet at place marks) (l : at < length text) where
  abbrev line : List ℕ
  line = first_line (drop at text)

  abbrev row : RowFields
  row = row_fields_of (marks_at (length p.rows)) (customer_of line)

  module _ (later : List (List ℕ)) (here : lines_from text at ≡ line ∷ later) where
    ranges : T (customers_range (customer_of line ∷ map customer_of later))
    ranges = subst (λ (ls : List (List ℕ)). T (customers_range (map customer_of ls))) here p.range

    few : header_size + row_size * (length p.rows + (1 + length later)) ≤ length lent
    few = subst (λ (n : ℕ). header_size + row_size * (length p.rows + n) ≤ length lent) (ap length here ∙ (omega arith)) p.room

  abbrev later : List (List ℕ)
  later = digit_lines (after_first (lines_of (drop at text)))

  here : lines_from text at ≡ line ∷ later
  here = digit_line_first (drop at text) (p.digit l)

  pub line_ranged : T (customer_range (customer_of line))
  line_ranged = first_ranged (customer_of line) (map customer_of later) (ranges later here)

  pub place_fits_lem : place + row_size ≤ length sheet
  place_fits_lem =
      let e = p.placed in
      let f = few later here in
      let n = put_long text from lent sheet at place marks p in
      omega arith

  module _ (next : ℕ) (o : Onward text at next) where
    onward : lines_from text at ≡ line ∷ lines_from text next
    onward = line_and_rest text at next (p.digit l) o

    longer : length (p.rows ++ row ∷ []) ≡ length p.rows + 1
    longer = length-append p.rows (row ∷ [])

    pub row_put : (after : List ℕ) → after ≡ write sheet place (row_record (row_fields_of marks (customer_of line))) → RowsPut text from lent after next (place + 48) 2
    unfolding rows_fields_from
    row_put after e = record {
      rows = p.rows ++ row ∷ [];
      within = o.within;
      digit = o.digit;
      placed = (let g = p.placed in let n = longer in omega arith);
      marking = ap marks_at (sym (longer ∙ add-one (length p.rows)));
      all = p.all ∙ ap (λ (ls : List (List ℕ)). p.rows ++ rows_fields_from (length p.rows) (map customer_of ls)) onward ∙ sym (append_assoc p.rows (row ∷ []) (rows_fields_from (length p.rows + 1) (map customer_of (lines_from text next)))) ∙ ap (λ (n : ℕ). p.rows ++ row ∷ [] ++ rows_fields_from n (map customer_of (lines_from text next))) (sym longer);
      range = rest_ranged (customer_of line) (map customer_of (lines_from text next)) (ranges (lines_from text next) onward);
      room = (let f = few (lines_from text next) onward in let n = longer in omega arith);
      written = e ∙ joined;
    }
      where
        before : List ℕ
        before = records_bytes row_record p.rows

        stands : place ≡ header_size + length before
        stands = p.placed ∙ ap (λ (n : ℕ). header_size + n) (sym (rows_long p.rows))

        joined : write sheet place (row_record (row_fields_of marks (customer_of line))) ≡ write lent header_size (records_bytes row_record (p.rows ++ row ∷ []))
        joined =
            let f = few (lines_from text next) onward in
            let g = rows_long p.rows in
            let r = length_row row in
            ap (λ (s : List ℕ). write s place (row_record (row_fields_of marks (customer_of line)))) p.written
            ∙ ap (λ (k : ℕ). write (write lent header_size before) k (row_record (row_fields_of marks (customer_of line)))) stands
            ∙ ap (λ (m : ℕ). write (write lent header_size before) (header_size + length before) (row_record (row_fields_of m (customer_of line)))) p.marking
            ∙ write_write lent header_size before (omega arith) (row_record row) (omega arith)
            ∙ ap (write lent header_size) (sym (records_more row_record p.rows row))

-- the text's end
pub all_put : (text : List ℕ) (from : ℕ) (lent sheet : List ℕ) (at place marks : ℕ) → RowsPut text from lent sheet at place marks → length text ≤ at → sheet ≡ write lent header_size (records_bytes row_record (rows_fields_from 0 (map customer_of (lines_from text from))))
unfolding rows_fields_from
all_put text from lent sheet at place marks p g =
    let w = p.within in
    let e : at ≡ length text = omega arith in
    let n : lines_from text at ≡ [] = ap (λ (k : ℕ). digit_lines (lines_of (drop k text))) e ∙ ap (λ (t : List ℕ). digit_lines (lines_of t)) (drop-length text) ∙ no_digit_line in
    p.written
    ∙ ap (λ (rs : List RowFields). write lent header_size (records_bytes row_record rs))
    (sym (p.all ∙ ap (λ (ls : List (List ℕ)). p.rows ++ rows_fields_from (length p.rows) (map customer_of ls)) n ∙ append-nil p.rows))
