-- `sheet_refusal::record::maxima_in_range` meets its contract. Assumes nothing.
use Rattle.numbers.specs.Laws.Range.{trillion}
use Rattle.sheet.specs.Ranges.{maxima_in_range}
use Rattle.sheet.specs.Fields.{vehicle_marks}
use Rattle.sheet_refusal.proofs.record.maxima_in_range.Goals as goal

pub returns-then-optional : goal.returns-then-optional
unfolding maxima_in_range vehicle_marks
returns-then-optional c = rw (← c.u32_at-marks.ensures, ← trillion, ← c.has_mark.ensures, ← c.optional.ensures, c.if-optional.true, ← c.has_mark-then-optional.ensures, c.optional-then-optional.ensures)

pub returns-else-optional : goal.returns-else-optional
unfolding maxima_in_range vehicle_marks
returns-else-optional c = rw (← c.u32_at-marks.ensures, ← trillion, ← c.has_mark.ensures, ← c.optional.ensures, c.if-optional.false)
