-- `evaluation_clock::window::violated` meets its contract. Assumes nothing.
use mathlib.Core.Path.{refl}
use Rattle.evaluation_clock.specs.Window.{violated_of}
use Rattle.evaluation_clock.proofs.window.violated.Goals as goal

pub returns : goal.returns
unfolding violated_of
returns c = refl
