-- `evaluation::keeping::keeps_rested` meets its contract. Assumes nothing.
use mathlib.Core.Path.{sym, ◌∙◌}
use Rattle.evaluation_clock.specs.Clock.{taken_of, end_of}
use Rattle.evaluation.specs.Verdict.{held_to}
use Rattle.evaluation.specs.Laws.Verdict.{held_passes}
use Rattle.evaluation.proofs.keeping.keeps_rested.Goals as goal

pub returns : goal.returns
unfolding taken_of end_of
returns c = rw (← c.step-carried.ensures, ← c.step_rested-here.ensures, ← c.earlier.ensures, c.in-Some.is) (c.allow.ensures ∙ sym (held_passes _ _))

pub returns-in_default : goal.returns-in_default
unfolding held_to taken_of end_of
returns-in_default c = rw (← c.step-carried.ensures, ← c.step_rested-here.ensures, ← c.earlier.ensures, c.in_default.is)
