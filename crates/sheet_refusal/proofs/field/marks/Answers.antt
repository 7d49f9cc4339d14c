-- `sheet_refusal::field::marks` meets its contract. Assumes nothing.
use mathlib.Core.Path.{refl}
use Rattle.sheet.specs.Ranges.{marks}
use Rattle.sheet_refusal.proofs.field.marks.Goals as goal

pub returns : goal.returns
unfolding marks
returns c = refl
