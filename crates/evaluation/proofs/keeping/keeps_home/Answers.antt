-- `evaluation::keeping::keeps_home` meets its contract. Assumes nothing.
use mathlib.Core.Path.{sym, ◌∙◌}
use Rattle.std.specs.Prelude.{None}
use Rattle.evaluation_clock.specs.Clock.{moved_of, unrested}
use Rattle.evaluation.proofs.ByRest.{mended_passes}
use Rattle.evaluation.proofs.keeping.keeps_home.Goals as goal

pub returns : goal.returns
unfolding moved_of unrested
returns c = rw (← c.travel_time-travel.ensures, ← c.travel_time-back.ensures, ← c.stop_at-stop.ensures, ← c.step.ensures, c.in-Some.is) (c.mends.ensures ∙ sym (mended_passes _ _ _ (record { distance = _; duration = _; lateness = _; lateness_cost = _; rest = None })))

pub returns-in_default : goal.returns-in_default
unfolding moved_of unrested
returns-in_default c = rw (← c.travel_time-travel.ensures, ← c.travel_time-back.ensures, ← c.stop_at-stop.ensures, ← c.step.ensures, c.in_default.is)
