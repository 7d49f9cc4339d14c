-- `sheet::customer::gate_at` meets its contract. Assumes nothing.
use Rattle.sheet.specs.Values.{gate_at}
use Rattle.sheet.specs.Fields.{row_marks}
use Rattle.sheet.proofs.customer.gate_at.Goals as goal

pub returns-then-not-has_mark : goal.returns-then-not-has_mark
unfolding gate_at row_marks
returns-then-not-has_mark c = rw (← c.u32_at-marks.ensures, ← c.has_mark.ensures, c.if-not-has_mark.true)

pub returns-then-not-has_mark-2 : goal.returns-then-not-has_mark-2
unfolding gate_at row_marks
returns-then-not-has_mark-2 c = rw (← c.u32_at-marks.ensures, ← c.has_mark.ensures, c.if-not-has_mark.false, ← c.has_mark-2.ensures, c.if-not-has_mark-2.true, c.f64_at-ready.ensures, c.f64_at-due.ensures)

pub returns : goal.returns
unfolding gate_at row_marks
returns c = rw (← c.u32_at-marks.ensures, ← c.has_mark.ensures, c.if-not-has_mark.false, ← c.has_mark-2.ensures, c.if-not-has_mark-2.false, c.f64_at-ready.ensures, c.f64_at-due.ensures, c.f64_at.ensures)
