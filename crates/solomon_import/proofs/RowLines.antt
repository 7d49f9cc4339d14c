-- The loop over a text's row lines (`rows::row_lines`). Assumes nothing.
use mathlib.Core.Path.{◌≡◌, sym, ap, ◌∙◌}
use Prim.Native.Nat.{ℕ, ◌+◌, ◌≤◌, ◌<◌}
use native.Mathlib.Omega.{arith}
use mathlib.Core.Bool.{Bool, true, false, ◌&&◌, and_assoc, and-true}
use mathlib.Core.List.{List, [], ◌∷◌, map}
use lib.Dec.{T}
use lib.ListN.{length, drop}
use lib.Seq.{drop-length}
use Rattle.solomon_text.specs.Lines.{lines_of, first_line, after_first, has_digit, digit_lines}
use Rattle.solomon_text.specs.Laws.Lines.{digit_line_first, no_digit_line}
use Rattle.solomon_import.specs.Instance.{is_row_line, are_row_lines, customer_of}
use Rattle.solomon_import.specs.Import.{customer_range, customers_range}
use Rattle.solomon_import.specs.Reading.{lines_from, Onward, InForm}

-- the lines from `from` to `at` are row lines, so many, and whether they are in range
pub record RowsRead (text : List ℕ) (from at count : ℕ) (in_range_lem : Bool) : Type 0 where
  pub within : at ≤ length text
  pub digit : at < length text → T (has_digit (first_line (drop at text)))
  pub form : are_row_lines 0 (lines_from text from) ≡ are_row_lines count (lines_from text at)
  pub counted : length (lines_from text from) ≡ count + length (lines_from text at)
  pub range : customers_range (map customer_of (lines_from text from)) ≡ (in_range_lem && customers_range (map customer_of (lines_from text at)))
  pub few : count ≤ at

pub line_and_rest : (text : List ℕ) (at next : ℕ) → T (has_digit (first_line (drop at text))) → Onward text at next → lines_from text at ≡ first_line (drop at text) ∷ lines_from text next
line_and_rest text at next d o = digit_line_first (drop at text) d ∙ ap (λ (ls : List (List ℕ)). first_line (drop at text) ∷ ls) o.lines

module _ (text : List ℕ) (from at count : ℕ) (in_range_lem : Bool) (r : RowsRead text from at count in_range_lem) (l : at < length text) where
  abbrev line : List ℕ
  line = first_line (drop at text)

  pub row_read : (next : ℕ) → Onward text at next → is_row_line count line ≡ true → RowsRead text from next (count + 1) (in_range_lem && customer_range (customer_of line))
  unfolding are_row_lines customers_range
  row_read next o h =
      let e = line_and_rest text at next (r.digit l) o in
      record {
        within = o.within;
        digit = o.digit;
        form = r.form ∙ ap (are_row_lines count) e ∙ ap (λ (b : Bool). b && are_row_lines (count + 1) (lines_from text next)) h;
        counted = r.counted ∙ ap (λ (ls : List (List ℕ)). count + length ls) e ∙ (omega arith);
        range = r.range ∙ ap (λ (ls : List (List ℕ)). in_range_lem && customers_range (map customer_of ls)) e ∙ sym (and_assoc in_range_lem (customer_range (customer_of line)) (customers_range (map customer_of (lines_from text next))));
        few = (let f = r.few in let g = o.further in omega arith);
      }

  -- a line that is no row line
  pub row_refused : is_row_line count line ≡ false → are_row_lines 0 (lines_from text from) ≡ false
  unfolding are_row_lines
  row_refused h = r.form ∙ ap (are_row_lines count) (digit_line_first (drop at text) (r.digit l)) ∙ ap (λ (b : Bool). b && are_row_lines (count + 1) (digit_lines (after_first (lines_of (drop at text))))) h

-- the text's end
pub all_read : (text : List ℕ) (from at count : ℕ) (in_range_lem : Bool) → RowsRead text from at count in_range_lem → length text ≤ at → InForm (lines_from text from) (record { count = count; in_range = in_range_lem })
unfolding are_row_lines customers_range
all_read text from at count in_range_lem r g =
    let w = r.within in
    let e : at ≡ length text = omega arith in
    let n : lines_from text at ≡ [] = ap (λ (k : ℕ). digit_lines (lines_of (drop k text))) e ∙ ap (λ (t : List ℕ). digit_lines (lines_of t)) (drop-length text) ∙ no_digit_line in
    record {
      form = r.form ∙ ap (are_row_lines count) n;
      counted = sym (r.counted ∙ ap (λ (ls : List (List ℕ)). count + length ls) n ∙ (omega arith));
      range = sym (r.range ∙ ap (λ (ls : List (List ℕ)). in_range_lem && customers_range (map customer_of ls)) n ∙ and-true in_range_lem);
    }
