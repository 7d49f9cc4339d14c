-- `constructive::load::load_of` meets its contract. Assumes nothing.
use Rattle.std.proofs.Common.{arith}
use Rattle.constructive.proofs.Loading.{loads, loaded}
use Rattle.constructive.proofs.load.load_of.Goals as goal

pub overflow_add-load : goal.overflow_add-load
overflow_add-load c = let g = loads _ _ _ _ c.loop-stop.invariant _ _ c.requires.1 c.loop-stop-test.true c.demand-load.ensures in omega (arith, g.few, c.requires.1.few)

pub loop-stop-preserved : goal.loop-stop-preserved
loop-stop-preserved c = loads _ _ _ _ c.loop-stop.invariant _ _ c.requires.1 c.loop-stop-test.true c.demand-load.ensures

pub returns : goal.returns
returns c = loaded _ _ _ _ c.loop-stop.invariant c.loop-stop-test.false c.loop-stop.auto.stop-index-end
