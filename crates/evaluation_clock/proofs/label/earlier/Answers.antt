-- `evaluation_clock::label::earlier` meets its contract. Assumes nothing.
use Rattle.evaluation_clock.specs.Clock.{earlier_of}
use Rattle.evaluation_clock.proofs.label.earlier.Goals as goal

pub returns-then-wins_over : goal.returns-then-wins_over
unfolding earlier_of
returns-then-wins_over c = rw (c.in-Some.is, c.in-Some-here-2.is, ← c.wins_over.ensures, c.if-wins_over.true, c.leaving-then-wins_over.ensures)

pub returns-in-None-here : goal.returns-in-None-here
unfolding earlier_of
returns-in-None-here c = rw (c.in-None.is, c.in-None-here.is)

pub returns-in-Some-here : goal.returns-in-Some-here
unfolding earlier_of
returns-in-Some-here c = rw (c.in-None.is, c.in-Some-here.is, c.leaving.ensures)

pub returns-in-None-here-2 : goal.returns-in-None-here-2
unfolding earlier_of
returns-in-None-here-2 c = rw (c.in-Some.is, c.in-None-here-2.is, c.leaving-in-None-here-2.ensures)

pub returns-else-wins_over : goal.returns-else-wins_over
unfolding earlier_of
returns-else-wins_over c = rw (c.in-Some.is, c.in-Some-here-2.is, ← c.wins_over.ensures, c.if-wins_over.false, c.leaving-in-Some-here-2.ensures)
