-- `solomon_i1_judging::try_stop` meets its contract. Assumes nothing.
use native.Mathlib.Omega.{arith}
use Rattle.insertion.proofs.Trying.{written}
use Rattle.solomon_i1_judging.proofs.Choosing.{load_fits}
use Rattle.solomon_i1_judging.proofs.try_stop.Goals as goal

pub overflow_add-figures : goal.overflow_add-figures
overflow_add-figures c = omega (arith, load_fits _ _ _ _ _ c.requires.figures_value _ c.demand.ensures c.requires.joinable)

pub try_places-requires-clause-trial : goal.try_places-requires-clause-trial
try_places-requires-clause-trial c = written _ _ _ _ c.requires.trial _
