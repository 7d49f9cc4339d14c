-- `planner::plan_rounds` meets its contract. Assumes nothing.
use mathlib.Core.Path.{refl}
use native.Mathlib.Omega.{arith}
use Rattle.std.proofs.lemmas.Result.{err_from_is_err_and}
use Rattle.sheet.specs.Laws.Told.{told_some}
use Rattle.planner.proofs.Answering.{refused_answer, refused_parts, asks, planned_answer, planned_parts}
use Rattle.planner.proofs.plan_rounds.Goals as goal

pub returns-in_err-refusal : goal.returns-in_err-refusal
returns-in_err-refusal c =
    let a = c.args in
    let e = c.in_err-refusal.ensures in
    let p = err_from_is_err_and c.from_residual.result c.from_residual.ensures.1 in
    let some = told_some c.in_err-refusal.field-0.0 in
    let parts = refused_parts a.sheet.now a.plan.now _ e some in
    rw (p.1, p.2) record {
      answered = refused_answer a.sheet.now a.plan.now _ e some;
      once = parts.0;
      feasibly = parts.1.0;
      lawful = parts.1.1.0;
      alone = parts.1.1.1.0;
      closed = parts.1.1.1.1.0;
      reasoned = parts.1.1.1.1.1;
    }

pub new-requires : goal.new-requires
new-requires c = (asks c.args.sheet.now c.args.plan.now 0 c.in_ok-refusal.ensures refl).0

pub fill-requires : goal.fill-requires
fill-requires c = rw c.new.ensures (asks c.args.sheet.now c.args.plan.now 0 c.in_ok-refusal.ensures refl).1

pub returns : goal.returns
returns c =
    let a = c.args in
    let e = c.in_ok-refusal.ensures in
    let parts = planned_parts a.sheet.now a.plan.now 0 e refl _ (rw c.new.ensures at c.fill.ensures) (λ i. omega (arith, c.shared_slice_known-1.given i)) in
    record {
      answered = planned_answer a.sheet.now a.plan.now 0 e refl _ (rw c.new.ensures at c.fill.ensures);
      once = parts.0;
      feasibly = parts.1.0;
      lawful = parts.1.1.0;
      alone = parts.1.1.1.0;
      closed = parts.1.1.1.1.0;
      reasoned = parts.1.1.1.1.1;
    }
