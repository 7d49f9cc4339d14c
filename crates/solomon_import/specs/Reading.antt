-- What is read of a text before anything is written.
use Rattle.std.specs.Prelude.{◌≡◌, ℕ, ◌≤◌, ◌<◌, Bool, T, true, false, List, Option, None, Some, map, leb, ltb, length, drop, Result, Ok, Err}
use Rattle.sheet.specs.Fields.{most_rows}
use Rattle.sheet.specs.declared.refusal.Refusal.{Refusal}
use Rattle.sheet.specs.Told.{number_of}
use Rattle.sheet.specs.Refusal.{unless}
use Rattle.solomon_text.specs.Lines.{lines_of, first_line, after_first, has_digit, digit_lines}
use Rattle.solomon_import.specs.declared.rows.RowLines.{RowLines}
use Rattle.solomon_import.specs.Instance.{are_row_lines, customer_of, form_right, customers_of, capacity_of}
use Rattle.solomon_import.specs.Import.{customers_range, capacity_range}

-- the lines that count, from the one at `at` on
abbrev pub lines_from : List ℕ → ℕ → List (List ℕ)
lines_from text at = digit_lines (lines_of (drop at text))

-- where a line is left behind and the next one with a digit is found
pub record Onward (text : List ℕ) (at next : ℕ) : Type 0 where
  pub further : at < next
  pub within : next ≤ length text
  pub lines : digit_lines (after_first (lines_of (drop at text))) ≡ lines_from text next
  pub digit : next < length text → T (has_digit (first_line (drop next text)))

-- what is found of row lines in form: how many there are, and whether they are in range
pub record InForm (lines : List (List ℕ)) (found : RowLines) : Type 0 where
  pub form : are_row_lines 0 lines ≡ true
  pub counted : found.count ≡ length lines
  pub range : found.in_range ≡ customers_range (map customer_of lines)

-- nothing, of others
abbrev pub RowLinesFound : List (List ℕ) → Option RowLines → Type 0
RowLinesFound lines None = are_row_lines 0 lines ≡ false
RowLinesFound lines (Some found) = InForm lines found

-- the refusals that do not depend on the buffer
unfoldable pub text_refusal : List ℕ → ℕ
text_refusal text =
    unless (form_right text) 11
    (unless (leb (length (customers_of text)) most_rows) 12
    (unless (customers_range (customers_of text)) 5
    (unless (capacity_range (capacity_of text)) 7 0)))

-- the same by what is found of the row lines and of the capacity, where the vehicle line and the row lines are in form
unfoldable pub rows_refusal : RowLines → Bool → ℕ
rows_refusal found capacity =
    unless (ltb 0 found.count) 11
    (unless (leb found.count most_rows) 12
    (unless found.in_range 5
    (unless capacity 7 0)))

-- what is read of a text: the refusal, or how many rows it has
abbrev pub TextRead : List ℕ → Result ℕ Refusal → Type 0
TextRead text (Err refusal) = number_of refusal ≡ text_refusal text
TextRead text (Ok rows) = (0 ≡ text_refusal text) × (rows ≡ length (customers_of text))
