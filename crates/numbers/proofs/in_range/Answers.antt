-- `numbers::in_range` meets its contract: the order of the patterns. Assumes nothing.
use Rattle.std.proofs.Common.{sym}
use Rattle.numbers.specs.Laws.Patterns.{pattern_order}
use Rattle.numbers.proofs.in_range.Goals as goal

pub returns : goal.returns
returns c = sym (pattern_order c.args.bits c.args.max c.requires)
