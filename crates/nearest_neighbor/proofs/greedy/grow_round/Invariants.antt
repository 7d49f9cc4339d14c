-- `nearest_neighbor::greedy::grow_round` meets its contract. Assumes nothing.
use mathlib.Core.Path.{◌≡◌}
use Rattle.sheet.specs.Values.{vehicle_of}
use Rattle.nearest_neighbor.specs.Heuristic.{limits_by}
use Rattle.nearest_neighbor.proofs.Growing.{Growing}
use Rattle.nearest_neighbor.proofs.greedy.grow_round.Given as goal

abbrev pub invariant-loop-end : goal.invariant-loop-end
invariant-loop-end g l = ((l.vehicle ≡ vehicle_of l.sheet l.index) × (l.limits ≡ limits_by l.sheet (g.R.Rule.which l.rule) l.index)) × Growing l.sheet l.depot (g.R.Rule.which l.rule) l.index l.initial.stops l.start l.total l.stops l.partial l.end
