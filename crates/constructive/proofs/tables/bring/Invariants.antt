-- `constructive::tables::bring` meets its contract. Assumes nothing.
use Prim.Native.Nat.{◌-◌}
use Rattle.constructive.proofs.Bringing.{Bringing}
use Rattle.constructive.proofs.tables.bring.Given as goal

abbrev pub invariant-loop-i : goal.invariant-loop-i
invariant-loop-i l = Bringing l.initial.stops l.to l.from l.stops l.carried l.i l.i-end

abbrev pub decreases-loop-i : goal.decreases-loop-i
decreases-loop-i l = l.i-end - l.i
