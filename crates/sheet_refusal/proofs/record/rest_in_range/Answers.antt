-- `sheet_refusal::record::rest_in_range` meets its contract. Assumes nothing.
use Rattle.numbers.specs.Laws.Range.{billion}
use Rattle.sheet.specs.Ranges.{rest_in_range}
use Rattle.sheet.specs.Fields.{vehicle_marks}
use Rattle.sheet_refusal.proofs.record.rest_in_range.Goals as goal

pub returns-then-interval : goal.returns-then-interval
unfolding rest_in_range vehicle_marks
returns-then-interval c = rw (← c.u32_at.ensures, ← c.has_mark-rests.ensures, ← c.interval.ensures, c.if-interval.true, c.optional.ensures, billion)
