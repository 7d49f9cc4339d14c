-- `solomon_i1_judging::try_stops` meets its contract. Assumes nothing.
use Rattle.solomon_i1_judging.proofs.Choosing.{Stopping}
use Rattle.solomon_i1_judging.proofs.try_stops.Given as goal

abbrev pub invariant-loop-j : goal.invariant-loop-j
invariant-loop-j l = Stopping l.sheet l.terms l.route l.left l.tried l.trial l.j l.j-end
