-- `sheet::plan_length` meets its contract: its rows are a number of two bytes, whatever the sheet. Assumes nothing.
use Rattle.std.proofs.Common.{ℕ, ◌<◌, List, get_or, arith}
use Rattle.wire.specs.Laws.Bytes.{le_lt}
use Rattle.sheet.specs.Fields.{rows_of}
use Rattle.sheet.proofs.plan_length.Goals as goal

rows_fit : (s : List ℕ) → ((i : ℕ) → get_or s i 0 < 256) → rows_of s < 65536
unfolding rows_of
rows_fit s h = omega (arith, le_lt 2 s 0 h)

pub overflow_mul-result : goal.overflow_mul-result
overflow_mul-result c = omega (arith, rows_fit c.args.sheet.now (λ (i : ℕ). omega (arith, c.shared_slice_known-1.given i)))

pub overflow_add-result : goal.overflow_add-result
overflow_add-result c = omega (arith, rows_fit c.args.sheet.now (λ (i : ℕ). omega (arith, c.shared_slice_known-1.given i)))
