-- `sheet_refusal::record::serving_in_range` meets its contract. Assumes nothing.
use Rattle.std.proofs.Common.{rules}
use Rattle.numbers.specs.Laws.Range.{million}
use Rattle.sheet.specs.Ranges.{serving_in_range}
use Rattle.sheet.specs.Fields.{row_marks}
use Rattle.sheet_refusal.proofs.record.serving_in_range.Goals as goal

pub returns-then-interval : goal.returns-then-interval
unfolding serving_in_range row_marks
returns-then-interval c = rw (c.optional.ensures, million) (search rules)
