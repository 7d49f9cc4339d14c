-- `evaluation::keeping::keeps_with` meets its contract. Assumes nothing.
use mathlib.Core.Path.{sym, ◌∙◌}
use Rattle.evaluation_clock.specs.Clock.{moved_of, homeward, returned}
use Rattle.evaluation.specs.Laws.Verdict.{held_passes}
use Rattle.evaluation.proofs.keeping.keeps_with.Goals as goal

pub returns-in_default : goal.returns-in_default
unfolding returned moved_of homeward
returns-in_default c = rw (← c.travel_time-travel.ensures, ← c.travel_time-back.ensures, ← c.stop_at-stop.ensures, ← c.step.ensures, c.in_default.is) c.keeps_rested.ensures

pub returns-then-l-back : goal.returns-then-l-back
unfolding returned moved_of homeward
returns-then-l-back c = rw (← c.travel_time-travel.ensures, ← c.travel_time-back.ensures, ← c.stop_at-stop.ensures, ← c.step.ensures, c.in-Some.is, c.if-l-back.true) (c.allow.ensures ∙ sym (held_passes _ _))

pub returns : goal.returns
unfolding returned moved_of homeward
returns c = rw (← c.travel_time-travel.ensures, ← c.travel_time-back.ensures, ← c.stop_at-stop.ensures, ← c.step.ensures, c.in-Some.is, c.if-l-back.false) c.keeps_rested-2.ensures
