-- `plan::write_aside` meets its contract. Assumes nothing.
use mathlib.Core.Path.{refl, ◌∙◌}
use Prim.Native.Nat.{◌≤◌, ◌<◌}
use native.Mathlib.Omega.{arith}
use lib.ListN.{length}
use Rattle.plan.proofs.Chaining.{begins, goes_on, ends}
use Rattle.plan.proofs.write_aside.Goals as goal

pub loop-i-init : goal.loop-i-init
loop-i-init c = let a = c.args in (refl, begins a.sheet.now a.aside.now a.plan.now)

pub overflow_add-i : goal.overflow_add-i
overflow_add-i c = omega arith

pub write_link-requires : goal.write_link-requires
write_link-requires c = let a = c.args in
    let pre = c.requires in
    let l = c.loop-i in
    let h : l.i < length a.aside.now = omega (arith, l.invariant.0) in
    (pre.chained.row l.i h, l.invariant.1.long ∙ pre.plan_len)

pub loop-i-preserved : goal.loop-i-preserved
loop-i-preserved c = let a = c.args in
    let l = c.loop-i in
    let w = c.write_link in
    let h : l.i < length a.aside.now = omega (arith, l.invariant.0) in
    (l.invariant.0, goes_on a.sheet.now a.aside.now a.plan.now l.plan l.i l.invariant.1 c.link.result w.new.plan h c.link.ensures w.auto.plan w.ensures)

pub shape_of-plan : goal.shape_of-plan
shape_of-plan c = c.loop-i.invariant.1.long

pub returns : goal.returns
returns c = let a = c.args in
    let l = c.loop-i in
    let h : length a.aside.now ≤ l.i = omega (arith, l.invariant.0, c.loop-i-test) in
    record {
      value = c.link-2.ensures;
      plan_after = ends a.sheet.now a.aside.now a.plan.now l.plan l.i l.invariant.1 h;
    }
