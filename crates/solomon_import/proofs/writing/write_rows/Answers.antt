-- `solomon_import::writing::write_rows` meets its contract (`RowsPut.antt`). Assumes nothing.
use Prim.Native.Nat.{ℕ}
use mathlib.Core.Path.{sym, ap, ◌∙◌, subst}
use mathlib.Core.List.{List}
use lib.Dec.{T}
use Rattle.wire.specs.Bytes.{write}
use Rattle.sheet_writer.specs.Sheet.{row_record}
use Rattle.sheet_writer.specs.Numbered.{RowNumbered}
use Rattle.sheet_writer.specs.declared.RowFields.{RowFields}
use Rattle.solomon_text.specs.Lines.{first_line}
use Rattle.solomon_import.specs.Instance.{customer_of}
use Rattle.solomon_import.specs.Import.{customer_range, row_fields_of}
use Rattle.solomon_import.specs.Laws.Ranged.{ranged}
use Rattle.solomon_import.proofs.Made.{row_numbered}
use native.Mathlib.Omega.{arith}
use lib.ListN.{drop}
use Rattle.solomon_import.proofs.RowsPut.{none_put, all_put, line_ranged, place_fits_lem, row_put}
use Rattle.solomon_import.proofs.writing.write_rows.Goals as goal

pub loop-at-init : goal.loop-at-init
loop-at-init c = (none_put c.args.text.now c.args.from c.args.sheet.now c.requires.from_in_bounds.0 c.requires.from_in_bounds.1 c.requires.t c.requires.from_in_bounds_2)

pub row_fields-requires : goal.row_fields-requires
row_fields-requires c = subst (λ (line : List ℕ). T (customer_range (customer_of line))) (sym c.line_at-line.ensures) (line_ranged c.args.text.now c.args.from c.args.sheet.now c.loop-at.sheet c.loop-at.at c.loop-at.place c.loop-at.marks c.loop-at.invariant c.loop-at-test.true)

pub put_row-requires : goal.put_row-requires
put_row-requires c = let e = c.line_at-line.ensures in
    let text = c.args.text.now in
    let m = c.loop-at.marks in
    let g = line_ranged c.args.text.now c.args.from c.args.sheet.now c.loop-at.sheet c.loop-at.at c.loop-at.place c.loop-at.marks c.loop-at.invariant c.loop-at-test.true in
    record {
      row_size_in_bounds = place_fits_lem c.args.text.now c.args.from c.args.sheet.now c.loop-at.sheet c.loop-at.at c.loop-at.place c.loop-at.marks c.loop-at.invariant c.loop-at-test.true;
      row_numbered = subst RowNumbered (sym (c.row_fields.ensures ∙ ap (λ (line : List ℕ). row_fields_of m (customer_of line)) e)) (row_numbered m (customer_of (first_line (drop c.loop-at.at text))) (ranged (customer_of (first_line (drop c.loop-at.at text))) g));
    }

pub loop-at-preserved : goal.loop-at-preserved
loop-at-preserved c = let text = c.args.text.now in
    row_put c.args.text.now c.args.from c.args.sheet.now c.loop-at.sheet c.loop-at.at c.loop-at.place c.loop-at.marks c.loop-at.invariant c.loop-at-test.true c.line_after-at.result c.line_after-at.ensures c.put_row.new.sheet
    (c.put_row.ensures ∙ ap (λ (r : RowFields). write c.loop-at.sheet c.loop-at.place (row_record r)) (c.row_fields.ensures ∙ ap (λ (line : List ℕ). row_fields_of c.loop-at.marks (customer_of line)) c.line_at-line.ensures))

pub returns : goal.returns
returns c = (all_put c.args.text.now c.args.from c.args.sheet.now c.loop-at.sheet c.loop-at.at c.loop-at.place c.loop-at.marks c.loop-at.invariant (omega arith))
