-- `solomon_import::rows::row_lines` meets its contract (`RowLines.antt`). Assumes nothing.
use mathlib.Core.Path.{refl, sym, ap, ◌∙◌, subst}
use mathlib.Core.List.{List}
use Prim.Native.Nat.{ℕ, ◌+◌}
use Rattle.solomon_import.specs.Instance.{is_row_line, customer_of}
use Rattle.solomon_import.specs.Import.{customer_range}
use native.Mathlib.Omega.{arith}
use Rattle.solomon_import.proofs.RowLines.{RowsRead, row_read, row_refused, all_read}
use Rattle.solomon_import.proofs.rows.row_lines.Goals.{then-in_range, else-in_range}
use Rattle.solomon_import.proofs.rows.row_lines.Goals as goal

pub returns-then-not-is_row_line : goal.returns-then-not-is_row_line
returns-then-not-is_row_line c = row_refused c.args.text.now c.args.from c.loop-at.at c.loop-at.count c.loop-at.in_range c.loop-at.invariant c.loop-at-test.true
    (ap (is_row_line c.loop-at.count) (sym c.line_at-line.ensures) ∙ sym c.is_row_line.ensures ∙ c.if-not-is_row_line.true)

pub loop-at-preserved : goal.loop-at-preserved
loop-at-preserved c = let text = c.args.text.now in
    let e = c.line_at-line.ensures in
    subst (RowsRead text c.args.from c.line_after-at.result (c.loop-at.count + 1))
    (elim c.if-in_range.branch [
      | then-in_range w ↦ rw (w.in_range-is, w.if-in_range.true) (ap (λ (line : List ℕ). customer_range (customer_of line)) (sym e) ∙ sym w.customer_in_range-in_range.ensures)
      | else-in_range w ↦ rw (w.in_range-is, w.if-in_range.false) refl
    ])
    (row_read text c.args.from c.loop-at.at c.loop-at.count c.loop-at.in_range c.loop-at.invariant c.loop-at-test.true c.line_after-at.result c.line_after-at.ensures
    (ap (is_row_line c.loop-at.count) (sym e) ∙ sym c.is_row_line.ensures ∙ c.if-not-is_row_line.false))

pub returns : goal.returns
returns c = all_read c.args.text.now c.args.from c.loop-at.at c.loop-at.count c.loop-at.in_range c.loop-at.invariant (omega arith)
