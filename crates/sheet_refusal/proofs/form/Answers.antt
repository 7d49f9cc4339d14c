-- `sheet_refusal::form` meets its contract. Assumes nothing.
use borrow.Author.Tests.{lt-leb}
use Rattle.std.proofs.lemmas.Result.{err_from_is_err_and}
use Rattle.sheet.specs.Refusal.{form, method_right}
use Rattle.sheet.specs.Laws.Accepted.{counts_of, header_of, sized}
use Rattle.sheet_refusal.proofs.Fields.{passed, five}
use Rattle.sheet_refusal.proofs.form.Goals as goal

pub counts_right-requires : goal.counts_right-requires
counts_right-requires c = (header_of c.args.sheet.now (passed c.header_right.result _ c.header_right.ensures (c.if-not-header_right.false))).0

pub method_of-requires : goal.method_of-requires
method_of-requires c = (header_of c.args.sheet.now (passed c.header_right.result _ c.header_right.ensures (c.if-not-header_right.false))).0

pub lengths_right-requires : goal.lengths_right-requires
lengths_right-requires c = let h = header_of c.args.sheet.now (passed c.header_right.result _ c.header_right.ensures (c.if-not-header_right.false)) in let k = counts_of c.args.sheet.now (passed c.counts_right.result _ c.counts_right.ensures (c.if-not-counts_right.false)) in record {
  header_size_in_bounds = h.0;
  sheet_bound = (k.0, (k.1, h.1));
}

pub returns-in_err-method_of-clause-form : goal.returns-in_err-method_of-clause-form
unfolding form method_right
returns-in_err-method_of-clause-form c = let p = err_from_is_err_and c.from_residual.result c.from_residual.ensures.1 in let e = c.in_err-method_of.ensures in rw (p.1, p.2, e.0, ← c.header_right.ensures, c.if-not-header_right.false, ← c.counts_right.ensures, c.if-not-counts_right.false, lt-leb _ _ e.1)

pub returns-then-not-lengths_right-clause-form : goal.returns-then-not-lengths_right-clause-form
unfolding form method_right
returns-then-not-lengths_right-clause-form c = rw (← c.header_right.ensures, c.if-not-header_right.false, ← c.counts_right.ensures, c.if-not-counts_right.false, five _ c.in_ok-method_of.ensures, ← c.lengths_right.ensures, c.if-not-lengths_right.true)

pub returns-clause-form : goal.returns-clause-form
unfolding form method_right
returns-clause-form c = rw (← c.header_right.ensures, c.if-not-header_right.false, ← c.counts_right.ensures, c.if-not-counts_right.false, five _ c.in_ok-method_of.ensures, ← c.lengths_right.ensures, c.if-not-lengths_right.false)

pub returns-clause-sized : goal.returns-clause-sized
returns-clause-sized c = sized c.args.sheet.now c.args.plan_len (passed c.header_right.result _ c.header_right.ensures (c.if-not-header_right.false)) (passed c.counts_right.result _ c.counts_right.ensures (c.if-not-counts_right.false)) (passed c.lengths_right.result _ c.lengths_right.ensures (c.if-not-lengths_right.false))
