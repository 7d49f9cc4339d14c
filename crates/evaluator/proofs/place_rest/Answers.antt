-- `evaluator::place_rest` meets its contract. Assumes nothing.
use Rattle.std.specs.Prelude.{Option, Some}
use mathlib.Core.Path.{◌≡◌}
use Rattle.sheet.specs.declared.vehicle.VehicleBreak.{VehicleBreak}
use Rattle.evaluation_clock.specs.RestAnswer.{RestAnswer}
use Rattle.evaluation.specs.Verdict.{Verdict, placed_rest}
use Rattle.evaluator.specs.Record.{placed_by, placed_of}
use Rattle.evaluator.proofs.place_rest.Goals as goal

resting : (rest : Option VehicleBreak) (b : VehicleBreak) (v : Verdict) (a : RestAnswer) → rest ≡ Some b → a ≡ placed_rest v → record { answer = a; duration = b.duration } ≡ placed_by rest v
resting rest b v a r e = rw (r, e)

pub returns-in-None : goal.returns-in-None
unfolding placed_of
returns-in-None c = rw c.in-None.is

pub returns-in-Some : goal.returns-in-Some
unfolding placed_of
returns-in-Some c = resting _ _ _ _ c.in-Some.is c.rest_answer-answer.ensures
