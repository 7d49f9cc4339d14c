-- `sheet_refusal::field::amount` meets its contract. Assumes nothing.
use Rattle.numbers.specs.Laws.Range.{billion}
use Rattle.sheet.specs.Ranges.{amount}
use Rattle.sheet_refusal.proofs.field.amount.Goals as goal

pub returns : goal.returns
unfolding amount
returns c = rw (c.in_range.ensures, c.u64_at.ensures, billion)
