-- `plan_figures::walk_rounds` meets its contract. Assumes nothing.
use lib.ListN.{length}
use Rattle.plan_figures.proofs.Walking.{Walking}
use Rattle.plan_figures.proofs.walk_rounds.Given as goal

abbrev pub invariant-loop-k : goal.invariant-loop-k
invariant-loop-k l = Walking l.tables.stops.now l.tables.ends.now l.tables.vehicles.now l.sheet (length l.initial.figures) l.figures l.k
