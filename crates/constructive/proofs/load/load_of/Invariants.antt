-- `constructive::load::load_of` meets its contract. Assumes nothing.
use Rattle.constructive.proofs.Loading.{Loading}
use Rattle.constructive.proofs.load.load_of.Given as goal

abbrev pub invariant-loop-stop : goal.invariant-loop-stop
invariant-loop-stop l = Loading l.sheet l.route l.load l.stop-index
