-- `sheet::has_mark` meets its contract. Assumes nothing.
use mathlib.Core.Path.{refl}
use Rattle.sheet.specs.Fields.{marked}
use Rattle.sheet.proofs.has_mark.Goals as goal

pub returns : goal.returns
unfolding marked
returns c = refl
