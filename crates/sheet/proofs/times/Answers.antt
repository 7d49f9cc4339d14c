-- `sheet::times` meets its contract. Assumes nothing.
use mathlib.Core.Path.{refl}
use Rattle.sheet.specs.Fields.{times_of}
use Rattle.sheet.proofs.times.Goals as goal

pub returns : goal.returns
unfolding times_of
returns c = refl
