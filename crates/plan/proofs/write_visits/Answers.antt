-- `plan::write_visits` meets its contract. Assumes nothing.
use mathlib.Core.Path.{refl, ◌∙◌}
use Prim.Native.Nat.{◌≤◌, ◌<◌}
use native.Mathlib.Omega.{arith}
use lib.ListN.{length}
use Rattle.evaluator.proofs.Going as steps
use Rattle.plan.proofs.Visiting.{begins, writes, goes_on, ends}
use Rattle.plan.proofs.write_visits.Goals as goal

pub loop-i-init : goal.loop-i-init
loop-i-init c = let a = c.args in
    let pre = c.requires in
    (refl, rw c.new-progress.ensures (begins a.sheet.now a.depot a.placed a.route.now pre.routed a.plan.now pre.visits_writable))

pub overflow_add-i : goal.overflow_add-i
overflow_add-i c = omega arith

pub write_visit-progress-requires : goal.write_visit-progress-requires
write_visit-progress-requires c = let a = c.args in
    let pre = c.requires in
    let l = c.loop-i in
    let h : l.i < length a.route.now = omega (arith, l.invariant.0) in record {
      driven = steps.driven a.sheet.now a.depot a.placed a.route.now pre.routed l.progress l.i l.invariant.1.going h;
      row_bound = (pre.routed.row l.i h, l.invariant.1.long ∙ pre.plan_len);
      visit_writable = writes a.sheet.now a.depot a.placed a.route.now pre.routed a.plan.now l.plan l.progress l.i l.invariant.1 h;
    }

pub loop-i-preserved : goal.loop-i-preserved
loop-i-preserved c = let a = c.args in
    let pre = c.requires in
    let l = c.loop-i in
    let w = c.write_visit-progress in
    let h : l.i < length a.route.now = omega (arith, l.invariant.0) in
    (l.invariant.0, goes_on a.sheet.now a.depot a.placed a.route.now pre.routed a.plan.now l.plan l.progress l.i l.invariant.1 w.result c.link-next.result w.new.plan h w.ensures.value c.link-next.ensures w.auto.plan w.ensures.plan_after)

pub shape_of-plan : goal.shape_of-plan
shape_of-plan c = c.loop-i.invariant.1.long

pub returns : goal.returns
returns c = let a = c.args in
    let pre = c.requires in
    let l = c.loop-i in
    let h : length a.route.now ≤ l.i = omega (arith, l.invariant.0, c.loop-i-test) in record {
      value = steps.ends a.sheet.now a.depot a.placed a.route.now pre.routed l.progress l.i l.invariant.1.going h;
      plan_after = ends a.sheet.now a.depot a.placed a.route.now pre.routed a.plan.now l.plan l.progress l.i l.invariant.1 h;
    }
