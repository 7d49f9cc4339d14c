-- `planner_limiting::limit_read` meets its contract. Assumes nothing.
use lib.ListN.{get_or}
use Rattle.planner_limiting.proofs.limit_read.Given as goal

abbrev pub ghost-write_reasons : goal.ghost-write_reasons
ghost-write_reasons a = λ row. get_or a.why.0.now row 0
