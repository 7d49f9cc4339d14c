-- `solomon_i1::growing::grow_round` meets its contract. Assumes nothing.
use Rattle.solomon_i1.proofs.Grows.{Growing}
use Rattle.solomon_i1.proofs.growing.grow_round.Given as goal

abbrev pub invariant-loop-end : goal.invariant-loop-end
invariant-loop-end l = Growing l.sheet l.terms l.initial.left l.initial.trial l.left l.trial l.end
