-- `solomon_import::reading::read` meets its contract (`Refusing.antt`). Assumes nothing.
use mathlib.Core.Path.{◌≡◌, sym, ap, ◌∙◌, subst}
use Prim.Native.Nat.{ℕ}
use mathlib.Core.Bool.{Bool, false}
use mathlib.Core.List.{List}
use Rattle.std.proofs.lemmas.Result.{err_from_is_err_and}
use Rattle.solomon_text.specs.Lines.{first_or, number_lines}
use Rattle.solomon_text.specs.Numbers.{number_at, holds_numbers}
use Rattle.solomon_import.specs.Instance.{are_row_lines, capacity_of}
use Rattle.solomon_import.specs.Import.{capacity_range}
use Rattle.solomon_import.specs.Reading.{InForm, rows_refusal}
use Rattle.solomon_import.proofs.Refusing.{refused_vehicle, refused_rows, told_by_rows, rows_counted}
use Rattle.solomon_import.proofs.reading.read.Goals as goal

-- what is read of the vehicle line
module _ (text : List ℕ) {line : List ℕ} {b : Bool} (e : line ≡ first_or (number_lines text)) where
  form : {is : Bool} → b ≡ holds_numbers 2 line → b ≡ is → holds_numbers 2 (first_or (number_lines text)) ≡ is
  form r i = ap (holds_numbers 2) (sym e) ∙ sym r ∙ i

  range : b ≡ capacity_range (number_at line 1) → b ≡ capacity_range (capacity_of text)
  unfolding capacity_of
  range r = r ∙ ap (λ (l : List ℕ). capacity_range (number_at l 1)) e

pub returns-then-not-holds_numbers : goal.returns-then-not-holds_numbers
returns-then-not-holds_numbers c =
    let text = c.args.text.now in
    refused_vehicle text (form text c.vehicle_line-vehicle.ensures c.holds_numbers.ensures c.if-not-holds_numbers.true)

pub returns-in_default : goal.returns-in_default
returns-in_default c =
    let text = c.args.text.now in
    refused_rows text (form text c.vehicle_line-vehicle.ensures c.holds_numbers.ensures c.if-not-holds_numbers.false)
    (subst (λ (ls : List (List ℕ)). are_row_lines 0 ls ≡ false) c.first_row_line.ensures.result_value c.in_default.ensures)

pub returns-in_err-rows_refusal : goal.returns-in_err-rows_refusal
returns-in_err-rows_refusal c =
    let text = c.args.text.now in
    let found = c.in-Some.found in
    let p = err_from_is_err_and c.from_residual.result c.from_residual.ensures.1 in
    rw (p.1, p.2)
    (told_by_rows text (form text c.vehicle_line-vehicle.ensures c.holds_numbers.ensures c.if-not-holds_numbers.false) found
    (subst (λ (ls : List (List ℕ)). InForm ls found) c.first_row_line.ensures.result_value c.in-Some.ensures)
    (c.in_err-rows_refusal.ensures ∙ ap (rows_refusal found) (range text c.vehicle_line-vehicle.ensures c.is_up_to.ensures)))

pub returns : goal.returns
returns c =
    let text = c.args.text.now in
    let found = c.in-Some.found in
    let formed = form text c.vehicle_line-vehicle.ensures c.holds_numbers.ensures c.if-not-holds_numbers.false in
    let f = subst (λ (ls : List (List ℕ)). InForm ls found) c.first_row_line.ensures.result_value c.in-Some.ensures in
    (told_by_rows text formed found f (c.in_ok-rows_refusal.ensures ∙ ap (rows_refusal found) (range text c.vehicle_line-vehicle.ensures c.is_up_to.ensures)), rows_counted text formed found f)
