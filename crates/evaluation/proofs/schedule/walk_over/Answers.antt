-- `evaluation::schedule::walk_over` meets its contract. Assumes nothing.
use mathlib.Core.Path.{sym, ◌∙◌}
use Rattle.evaluation.proofs.Walking.{goes_on, stops}
use Rattle.evaluation.proofs.schedule.walk_over.Goals as goal

pub loop-stop-preserved : goal.loop-stop-preserved
loop-stop-preserved c = rw c.distance-distance.ensures (goes_on _ _ _ _ _ _ _ _ _ c.loop-stop.invariant _ c.loop-stop-test.true (rw (← c.travel_time-travel.ensures, ← c.stop_at.ensures) (sym c.serve.ensures ∙ c.in_ok-label.was)))

pub returns-in_err-label-clause-stands : goal.returns-in_err-label-clause-stands
returns-in_err-label-clause-stands c = rw c.from_residual.ensures
    (rw c.label-label.ensures
    at (stops _ _ _ _ _ _ _ _ _ c.loop-stop.invariant c.loop-stop-test.true
    (rw (← c.travel_time-travel.ensures, ← c.stop_at.ensures) (sym c.serve.ensures ∙ c.in_err-label.was))))
