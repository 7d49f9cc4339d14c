-- `evaluator::Progress::visited` meets its contract. Assumes nothing.
use native.Mathlib.Omega.{arith}
use Rattle.evaluator.specs.Record.{visited_of}
use Rattle.evaluator.proofs.Going.{stop_demand, departs_lem}
use Rattle.evaluator.proofs.Progress.visited.Goals as goal

pub overflow_add-result : goal.overflow_add-result
overflow_add-result c = let d = stop_demand c.args.sheet.now c.requires.driven.sheet c.args.row c.requires.row_bound c.stop_at-stop.result c.stop_at-stop.ensures in record { fits = omega (arith, c.requires.driven.room, c.requires.driven.load, d) }

pub returns : goal.returns
unfolding visited_of
returns c = let p = c.late_after-lateness.ensures in rw (p.1, p.0, c.distance.ensures, c.service_start.ensures, c.stop_at-stop.ensures, c.ready_for-ready.ensures, c.travel_time.ensures, departs_lem)
