-- `probe::asked::rows_right` meets its contract. Assumes nothing.
use mathlib.Core.Path.{◌≡◌, refl}
use native.Mathlib.Numerals.{add-one}
use native.Mathlib.Omega.{arith}
use lib.ListN.{length}
use Rattle.numbers.specs.All.{all}
use Rattle.probe.specs.Promises.{rows_right}
use Rattle.probe.proofs.asked.rows_right.Goals as goal

pub loop-stop-init : goal.loop-stop-init
unfolding all
loop-stop-init c = refl

pub loop-stop-preserved : goal.loop-stop-preserved
unfolding all
loop-stop-preserved c = rw (add-one, ← c.loop-stop.invariant)

pub returns : goal.returns
unfolding rows_right
returns c = let e : c.loop-stop.stop-index ≡ length c.args.stops.now = omega arith in rw e at c.loop-stop.invariant
