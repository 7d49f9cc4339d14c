-- `evaluation_clock::label::visit` meets its contract. Assumes nothing.
use Rattle.evaluation_clock.specs.Serve.{pass}
use Rattle.evaluation_clock.proofs.label.visit.Goals as goal

pub returns-then-violated : goal.returns-then-violated
unfolding pass
returns-then-violated c = rw (c.in-Hard.is, ← c.violated.ensures, c.if-violated.true)

pub returns-then-violated-2 : goal.returns-then-violated-2
unfolding pass
returns-then-violated-2 c = rw (c.in-Soft.is, ← c.violated-in-Soft.ensures, c.if-violated-2.true, c.leaving-then-violated-2.ensures, c.late_by-late.ensures, c.lateness.ensures, c.departure-time.ensures)

pub returns-in-Open : goal.returns-in-Open
unfolding pass
returns-in-Open c = rw (c.in-Open.is, c.leaving.ensures)

pub returns-else-violated : goal.returns-else-violated
unfolding pass
returns-else-violated c = rw (c.in-Hard.is, ← c.violated.ensures, c.if-violated.false, c.leaving-in-Hard.ensures, c.departure.ensures)

pub returns-else-violated-2 : goal.returns-else-violated-2
unfolding pass
returns-else-violated-2 c = rw (c.in-Soft.is, ← c.violated-in-Soft.ensures, c.if-violated-2.false, c.leaving-in-Soft.ensures, c.departure-time.ensures)
