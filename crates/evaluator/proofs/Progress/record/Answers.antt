-- `evaluator::Progress::record` meets its contract. Assumes nothing.
use Rattle.evaluator.specs.Record.{record_of}
use Rattle.evaluator.proofs.Progress.record.Goals as goal

pub returns : goal.returns
unfolding record_of
returns c = rw (c.ready_for.ensures, c.distance.ensures, c.travel_time.ensures)
