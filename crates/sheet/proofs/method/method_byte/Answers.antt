-- `sheet::method::method_byte` meets its contract. Assumes nothing.
use mathlib.Core.Path.{refl}
use Rattle.sheet.specs.Fields.{method_of}
use Rattle.sheet.proofs.method.method_byte.Goals as goal

pub returns : goal.returns
unfolding method_of
returns c = refl
