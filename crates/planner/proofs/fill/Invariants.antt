-- `planner::fill` meets its contract. Assumes nothing.
use Rattle.reason.specs.Reason.{reason_of}
use Rattle.planner.proofs.fill.Given as goal

abbrev pub ghost-write_reasons : goal.ghost-write_reasons
ghost-write_reasons a = reason_of a.why.0.now
