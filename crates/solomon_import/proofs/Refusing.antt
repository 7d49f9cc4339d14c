-- The first of a text's lines that count, and the refusals by what is found of the others. Assumes nothing.
use mathlib.Core.Path.{◌≡◌, refl, sym, ap, ◌∙◌}
use Prim.Native.Nat.{ℕ, suc, ◌≤◌, ◌<◌}
use native.Mathlib.Omega.{arith}
use mathlib.Core.Logic.{◌⊎◌, inl, inr}
use native.Mathlib.Nat.{eq-or-lt_of_le}
use mathlib.Core.Bool.{Bool, true, false, ◌&&◌, and-true, false≢true}
use mathlib.Core.List.{List, [], ◌∷◌, map}
use lib.Dec.{T, ltb}
use lib.ListN.{length, drop, length-map}
use lib.Seq.{drop-length}
use borrow.Author.Tests.{lt-ltb}
use Rattle.solomon_text.specs.Lines.{lines_of, first_or, after_first, first_line, has_digit, digit_lines, number_lines, without_returns, parts_of, parts_with, words_of}
use Rattle.solomon_text.specs.Numbers.{all_whole_numbers, holds_numbers}
use Rattle.solomon_text.specs.Laws.Lines.{digit_line_first, no_digit_line}
use Rattle.solomon_import.specs.declared.rows.RowLines.{RowLines}
use Rattle.solomon_import.specs.Instance.{are_row_lines, is_instance, form_right, customer_of, customers_of, capacity_of}
use Rattle.solomon_import.specs.Import.{capacity_range}
use Rattle.solomon_import.specs.Reading.{lines_from, Onward, InForm, text_refusal, rows_refusal}
use Rattle.solomon_import.proofs.RowLines.{line_and_rest}

-- a place of a text's lines that count: the text's end, or a line with a digit
abbrev pub Starts : List ℕ → ℕ → Type 0
Starts text at = (at ≤ length text) × (number_lines text ≡ lines_from text at) × (at < length text → T (has_digit (first_line (drop at text))))

module _ (text : List ℕ) (at : ℕ) (s : Starts text at) where
  at_end : length text ≡ at → lines_from text at ≡ []
  at_end e = ap (λ (k : ℕ). digit_lines (lines_of (drop k text))) (sym e) ∙ ap (λ (t : List ℕ). digit_lines (lines_of t)) (drop-length text) ∙ no_digit_line

  empty_line : first_line [] ≡ []
  unfolding first_line lines_of without_returns parts_of
  empty_line = refl

  pub vehicle_line : first_line (drop at text) ≡ first_or (number_lines text)
  vehicle_line = go (eq-or-lt_of_le s.0)
    where
      go : (at ≡ length text) ⊎ (at < length text) → first_line (drop at text) ≡ first_or (number_lines text)
      go (inl e) = ap (λ (k : ℕ). first_line (drop k text)) e ∙ ap first_line (drop-length text) ∙ empty_line ∙ sym (ap first_or (s.1 ∙ at_end (sym e)))
      go (inr l) = sym (ap first_or (s.1 ∙ digit_line_first (drop at text) (s.2 l)))

  pub no_rows : at ≡ length text → lines_from text at ≡ after_first (number_lines text)
  no_rows e = at_end (sym e) ∙ sym (ap after_first (s.1 ∙ at_end (sym e)))

  pub first_row : at < length text → (next : ℕ) → Onward text at next → lines_from text next ≡ after_first (number_lines text)
  first_row l next o = sym (ap after_first (s.1 ∙ line_and_rest text at next (s.2 l) o))

-- ---- the refusals
instance_by : (rows : List (List ℕ)) (v : List ℕ) → holds_numbers 2 v ≡ true → is_instance (v ∷ rows) ≡ (are_row_lines 0 rows && ltb 0 (length rows))
unfolding are_row_lines
instance_by [] v h = refl
instance_by (row ∷ rows) v h = ap (λ (b : Bool). b && are_row_lines 0 (row ∷ rows)) h ∙ sym (and-true (are_row_lines 0 (row ∷ rows))) ∙ ap (◌&&◌ (are_row_lines 0 (row ∷ rows))) (sym (lt-ltb 0 (suc (length rows)) (omega arith)))

vehicle_none : holds_numbers 2 [] ≡ false
unfolding holds_numbers all_whole_numbers words_of parts_with parts_of
vehicle_none = refl

-- the form, by its two kinds of lines
instance_parts : (ls : List (List ℕ)) → holds_numbers 2 (first_or ls) ≡ true → is_instance ls ≡ (are_row_lines 0 (after_first ls) && ltb 0 (length (after_first ls)))
instance_parts [] h = absurd (false≢true (sym vehicle_none ∙ h))
instance_parts (v ∷ rows) h = instance_by rows v h

no_instance : (ls : List (List ℕ)) → holds_numbers 2 (first_or ls) ≡ false → is_instance ls ≡ false
no_instance [] h = refl
no_instance (v ∷ []) h = refl
no_instance (v ∷ row ∷ rows) h = rw h refl

pub refused_vehicle : (text : List ℕ) → holds_numbers 2 (first_or (number_lines text)) ≡ false → 11 ≡ text_refusal text
unfolding text_refusal form_right
refused_vehicle text h = rw (no_instance (number_lines text) h) refl

length_customers : (text : List ℕ) → length (customers_of text) ≡ length (after_first (number_lines text))
unfolding customers_of
length_customers text = length-map (after_first (number_lines text)) customer_of

-- row lines in form: each refusal by what was found; otherwise 11
module _ (text : List ℕ) (h : holds_numbers 2 (first_or (number_lines text)) ≡ true) where
  pub refused_rows : are_row_lines 0 (after_first (number_lines text)) ≡ false → 11 ≡ text_refusal text
  unfolding text_refusal form_right
  refused_rows r = rw (instance_parts (number_lines text) h, r) refl

  module _ (found : RowLines) (f : InForm (after_first (number_lines text)) found) where
    pub told_by_rows : {n : ℕ} → n ≡ rows_refusal found (capacity_range (capacity_of text)) → n ≡ text_refusal text
    unfolding text_refusal rows_refusal form_right customers_of
    told_by_rows e =
        let l : length (map customer_of (after_first (number_lines text))) ≡ found.count = length_customers text ∙ sym f.counted in
        e ∙ rw (instance_parts (number_lines text) h, f.form, ← f.counted, l, ← f.range) refl

    pub rows_counted : found.count ≡ length (customers_of text)
    rows_counted = f.counted ∙ sym (length_customers text)
