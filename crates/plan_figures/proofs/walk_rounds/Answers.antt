-- `plan_figures::walk_rounds` meets its contract. Assumes nothing.
use native.Mathlib.Omega.{arith}
use Rattle.constructive.proofs.InTables.{round_of}
use Rattle.plan_figures.proofs.Walking.{goes_on, done}
use Rattle.plan_figures.proofs.walk_rounds.Goals as goal

pub built-requires : goal.built-requires
built-requires c = rw (c.vehicle_of.ensures, c.route.ensures) (round_of _ _ _ _ _ _ c.requires.1 _ (omega arith))

pub loop-k-preserved : goal.loop-k-preserved
loop-k-preserved c = goes_on _ _ _ _ _ _ _ c.loop-k.invariant _ (omega arith) (rw (c.vehicle_of.ensures, c.route.ensures) at c.built.ensures)

pub returns : goal.returns
returns c = done _ _ _ _ _ _ _ c.loop-k.invariant (omega arith)
