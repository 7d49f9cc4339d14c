-- `evaluation::schedule::walk` meets its contract. Assumes nothing.
use Rattle.evaluation.specs.Walk.{scheduled_of}
use Rattle.evaluation.proofs.schedule.walk.Goals as goal

pub returns : goal.returns
unfolding scheduled_of
returns c = rw c.new.ensures at (c.walk_home.ensures 1)
