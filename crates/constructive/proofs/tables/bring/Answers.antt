-- `constructive::tables::bring` meets its contract. Assumes nothing.
use mathlib.Core.Path.{◌≡◌, refl}
use Prim.Native.Nat.{◌-◌}
use native.Mathlib.Omega.{arith}
use Rattle.constructive.proofs.Bringing.{begins, goes_on}
use Rattle.constructive.proofs.tables.bring.Goals as goal

pub loop-i-init : goal.loop-i-init
loop-i-init c = let a = c.args in let p = c.requires in let e : a.to - a.to ≡ 0 = omega arith in record { order = p.0; inside = p.1; last = refl; lower = omega arith; within = omega arith; laid = begins a.stops.now a.to a.from p.0 p.1; holds = rw e }

pub loop-i-preserved : goal.loop-i-preserved
loop-i-preserved c = goes_on _ _ _ _ _ _ _ c.loop-i.invariant c.loop-i-test.true
