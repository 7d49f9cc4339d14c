-- `nearest_neighbor_choice::rule::nearest` meets its contract. Assumes nothing.
use Rattle.std.proofs.Common.{◌-◌, length}
use Rattle.nearest_neighbor_choice.specs.Heuristic.{offer_by}
use Rattle.nearest_neighbor_choice.proofs.Judging.{Choosing}
use Rattle.nearest_neighbor_choice.proofs.rule.nearest.Given as goal

abbrev pub invariant-loop-j : goal.invariant-loop-j
invariant-loop-j g l = Choosing (offer_by l.sheet l.depot (g.R.Rule.which l.rule) l.vehicle l.limits l.partial) l.left l.best l.j

abbrev pub decreases-loop-j : goal.decreases-loop-j
decreases-loop-j g l = length l.left - l.j
