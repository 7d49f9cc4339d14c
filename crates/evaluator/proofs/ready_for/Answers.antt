-- `evaluator::ready_for` meets its contract. Assumes nothing.
use borrow.Author.Tests.{eq-eqb, ne_eqb}
use Rattle.evaluator.specs.Record.{ready_for}
use Rattle.evaluator.proofs.ready_for.Goals as goal

pub returns-then-at-place : goal.returns-then-at-place
unfolding ready_for
returns-then-at-place c = rw (c.in-Some.is, eq-eqb _ _ c.if-at-place.true)

pub returns-in-None : goal.returns-in-None
unfolding ready_for
returns-in-None c = rw c.in-None.is

pub returns-else-at-place : goal.returns-else-at-place
unfolding ready_for
returns-else-at-place c = rw (c.in-Some.is, ne_eqb _ _ c.if-at-place.false)
