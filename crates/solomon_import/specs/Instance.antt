-- docs/SCOPE.md#the-importer. Document 02, Three: which text is one of Solomon's instances, and the values that it holds.
use Rattle.std.specs.Prelude.{ℕ, ◌+◌, Bool, true, false, ◌&&◌, List, [], ◌∷◌, map, ℤ}
use Rattle.solomon_text.specs.Lines.{first_or, after_first, number_lines}
use Rattle.solomon_text.specs.Numbers.{holds_numbers, number_at, equals}

-- ---- the form
-- a line "of the seven published whole numbers, the first counting from 0": the k-th
unfoldable pub is_row_line : ℕ → List ℕ → Bool
is_row_line k line = holds_numbers 7 line && equals k (number_at line 0)

-- the k-th row line and those after it
unfoldable pub are_row_lines : ℕ → List (List ℕ) → Bool
are_row_lines k [] = true
are_row_lines k (line ∷ lines) = is_row_line k line && are_row_lines (k + 1) lines

-- "one of vehicle number (not used) and capacity, then one or more of the seven": the lines that count
abbrev pub is_instance : List (List ℕ) → Bool
is_instance [] = false
is_instance (vehicle ∷ []) = false
is_instance (vehicle ∷ row ∷ rows) = holds_numbers 2 vehicle && are_row_lines 0 (row ∷ rows)

-- 11: "text that is not this form"
unfoldable pub form_right : List ℕ → Bool
form_right text = is_instance (number_lines text)

-- ---- the values
-- the published numbers of a row, but the first, in the order of the published files
pub record Customer : Type 0 where
  pub x : ℤ
  pub y : ℤ
  pub demand : ℤ
  pub ready : ℤ
  pub due : ℤ
  pub service : ℤ

unfoldable pub customer_of : List ℕ → Customer
customer_of line = record {
  x = number_at line 1;
  y = number_at line 2;
  demand = number_at line 3;
  ready = number_at line 4;
  due = number_at line 5;
  service = number_at line 6;
}

-- the depot first
unfoldable pub customers_of : List ℕ → List Customer
customers_of text = map customer_of (after_first (number_lines text))

-- the second number of the vehicle line
unfoldable pub capacity_of : List ℕ → ℤ
capacity_of text = number_at (first_or (number_lines text)) 1
