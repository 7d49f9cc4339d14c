-- `solomon_i1::growing::grow_round` meets its contract. Assumes nothing.
use native.Mathlib.Omega.{arith}
use Rattle.solomon_i1.proofs.Grows.{begins, left_long, grown_full, from_left, to_round, goes_on, grown_out, ends_at, ends_laid}
use Rattle.solomon_i1.proofs.growing.grow_round.Goals as goal

pub loop-end-init : goal.loop-end-init
loop-end-init c = begins c.args.sheet.now c.args.terms c.args.left.now c.args.trial.now c.requires.joinable c.requires.left_nonzero.0 c.requires.left_nonzero.1

pub returns-in_default : goal.returns-in_default
returns-in_default c = let t = grown_full _ _ _ _ _ _ _ c.loop-end.invariant c.best_joining.result c.best_joining.ensures c.in_default.is in record {
  value = ends_at _ _ _ _ _ _ _ c.loop-end.invariant t;
  left_after = ends_laid _ _ _ _ _ _ _ c.loop-end.invariant t;
}

pub overflow_add-end : goal.overflow_add-end
overflow_add-end c = omega (arith, from_left _ _ _ _ _ _ _ c.loop-end.invariant c.best_joining.result c.best_joining.ensures _ _ _ c.in-Some.is, left_long _ _ _ _ _ _ _ c.loop-end.invariant, c.loop-end.invariant.few)

pub bring-requires : goal.bring-requires
bring-requires c = (to_round _ _ _ _ _ _ _ c.loop-end.invariant c.best_joining.result c.best_joining.ensures _ _ _ c.in-Some.is, from_left _ _ _ _ _ _ _ c.loop-end.invariant c.best_joining.result c.best_joining.ensures _ _ _ c.in-Some.is)

pub loop-end-preserved : goal.loop-end-preserved
loop-end-preserved c = goes_on _ _ _ _ _ _ _ c.loop-end.invariant c.best_joining.result c.best_joining.ensures _ _ _ c.in-Some.is _ _ c.bring.ensures c.best_joining.auto.trial

pub returns : goal.returns
returns c = let t = grown_out _ _ _ _ _ _ _ c.loop-end.invariant c.loop-end-test.false in record {
  value = omega (arith, ends_at _ _ _ _ _ _ _ c.loop-end.invariant t, c.loop-end.invariant.all);
  left_after = ends_laid _ _ _ _ _ _ _ c.loop-end.invariant t;
}
