-- `solomon_text::number::size` meets its contract. Assumes nothing.
use Rattle.solomon_text.specs.Numbers.{without_minus}
use Rattle.solomon_text.specs.Laws.Numbers.{size_goes_on, size_ends}
use Rattle.solomon_text.proofs.number.size.Goals as goal

pub loop-b-preserved : goal.loop-b-preserved
loop-b-preserved c =
    let e = c.digits-b-items.ensures in
    size_goes_on (without_minus c.args.word.now) c.loop-b.b-index c.loop-b.size c.with_digit-size.result (rw e at c.loop-b-test.true) c.loop-b.invariant (rw e at c.with_digit-size.ensures)

pub returns : goal.returns
returns c = size_ends c.args.word.now c.loop-b.b-index c.loop-b.size (rw c.digits-b-items.ensures at c.loop-b-test.false) c.loop-b.invariant
