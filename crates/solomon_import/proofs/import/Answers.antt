-- `solomon_import::import` meets its contract (`Answering.antt`). Assumes nothing.
use mathlib.Core.Path.{subst}
use Prim.Native.Nat.{ℕ, ◌<◌}
use native.Mathlib.Omega.{arith}
use lib.ListN.{length}
use Rattle.std.proofs.lemmas.Result.{err_from_is_err_and}
use Rattle.solomon_import.proofs.Answering.{rows_few, long_small, told_answer, short_answer, written_answer}
use Rattle.solomon_import.proofs.import.Goals as goal

pub returns-in_err-rows : goal.returns-in_err-rows
returns-in_err-rows c =
    let p = err_from_is_err_and c.from_residual.result c.from_residual.ensures.1 in
    let r = told_answer c.args.text.now c.args.sheet.now _ c.in_err-rows.ensures in
    rw (p.1, p.2) record { import_answered = r.0; import_accepted = r.1; import_long = tt }

pub import_length-long-requires : goal.import_length-long-requires
import_length-long-requires c = let e = c.in_ok-rows.ensures in rows_few c.args.text.now _ e.0 e.1

pub returns-then-sheet-long : goal.returns-then-sheet-long
returns-then-sheet-long c =
    let e = c.in_ok-rows.ensures in
    let r = short_answer c.args.text.now c.args.sheet.now _ e.0 e.1 (subst (λ (k : ℕ). length c.args.sheet.now < k) c.import_length-long.ensures c.if-sheet-long.true) in
    record { import_answered = r.0; import_accepted = r.1; import_long = tt }

pub returns : goal.returns
returns c =
    let e = c.in_ok-rows.ensures in
    let r = written_answer c.args.text.now c.args.sheet.now c.write_sheet.new.sheet _ c.import_length-long.result e.0 e.1 c.import_length-long.ensures c.if-sheet-long.false c.write_sheet.ensures in
    record { import_answered = r.0; import_accepted = r.1; import_long = omega (arith, long_small c.args.text.now _ c.import_length-long.result e.0 e.1 c.import_length-long.ensures) }
