-- `nearest_neighbor::greedy::lay_rounds` meets its contract. Assumes nothing.
use lib.ListN.{length}
use Rattle.constructive.specs.Lent.{Lent}
use Rattle.nearest_neighbor.proofs.Laying.{Laying}
use Rattle.nearest_neighbor.proofs.greedy.lay_rounds.Given as goal

abbrev pub invariant-loop-index : goal.invariant-loop-index
invariant-loop-index g l = Lent l.initial.tables l.tables × Laying l.sheet l.depot (g.R.Rule.which l.rule) l.fleet l.initial.tables.stops.now l.initial.tables.ends.now l.initial.tables.vehicles.now l.initial.done l.total l.tables.stops.now l.tables.ends.now l.tables.vehicles.now l.done l.index-index (length l.fleet)
