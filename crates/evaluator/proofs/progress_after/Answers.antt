-- `evaluator::progress_after` meets its contract. Assumes nothing.
use Rattle.evaluator.proofs.Going.{goes_on}
use Rattle.evaluator.proofs.progress_after.Goals as goal

pub loop-stop-preserved : goal.loop-stop-preserved
loop-stop-preserved c = goes_on c.args.sheet.now c.args.depot c.args.placed c.args.route.now c.requires c.loop-stop.progress c.visited-progress.result c.loop-stop.stop-index c.loop-stop.invariant c.loop-stop-test.true c.visited-progress.ensures
