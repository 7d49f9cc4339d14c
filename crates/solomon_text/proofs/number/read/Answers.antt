-- `solomon_text::number::read` meets its contract. Assumes nothing.
use borrow.Author.Tests.{eq-eqb}
use Rattle.solomon_text.specs.Laws.Numbers.{signed_number, zero_number}
use Rattle.solomon_text.proofs.number.read.Goals as goal

pub returns-then-size-ne0 : goal.returns-then-size-ne0
returns-then-size-ne0 c = rw c.has_minus.ensures (signed_number c.args.word.now c.size-size.result c.size-size.ensures c.if-size-ne0.true)

pub returns-else-size-ne0 : goal.returns-else-size-ne0
returns-else-size-ne0 c = rw (eq-eqb c.size-size.result 0 c.if-size-ne0.false) (zero_number c.args.word.now c.size-size.result c.size-size.ensures c.if-size-ne0.false)
