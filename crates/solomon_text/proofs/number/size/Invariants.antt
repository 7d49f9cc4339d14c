-- `solomon_text::number::size` meets its contract. Assumes nothing.
use Rattle.solomon_text.specs.Numbers.{without_minus}
use Rattle.solomon_text.specs.Laws.Numbers.{Sizing}
use Rattle.solomon_text.proofs.number.size.Given as goal

abbrev pub invariant-loop-b : goal.invariant-loop-b
invariant-loop-b l = Sizing (without_minus l.word) l.b-index l.size
