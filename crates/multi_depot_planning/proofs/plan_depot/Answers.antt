-- `multi_depot_planning::plan_depot` meets its contract. Assumes nothing.
use Rattle.multi_depot_planning.proofs.Plans.{turned_known}
use Rattle.multi_depot_planning.proofs.plan_depot.Goals as goal

pub mark-requires-clause-by_index : goal.mark-requires-clause-by_index
mark-requires-clause-by_index c = let a = c.args in turned_known a.sheet.now a.at.now a.marks.now a.depot c.requires.next.1 c.lay_depot-total.ensures.depot_laid
