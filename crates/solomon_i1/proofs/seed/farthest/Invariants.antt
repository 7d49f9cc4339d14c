-- `solomon_i1::seed::farthest` meets its contract. Assumes nothing.
use Rattle.solomon_i1.proofs.Seeking.{Seeking}
use Rattle.solomon_i1.proofs.seed.farthest.Given as goal

abbrev pub invariant-loop-j : goal.invariant-loop-j
invariant-loop-j l = Seeking l.sheet l.depot l.left l.place l.most l.j l.j-end
