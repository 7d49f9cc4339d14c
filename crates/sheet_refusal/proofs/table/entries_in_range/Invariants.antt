-- The highest bit of `signs` is clear exactly if the entries so far are in range.
use Rattle.std.proofs.Common.{◌≡◌, ℕ, ltb}
use Rattle.numbers.specs.All.{all}
use Rattle.sheet.specs.Fields.{entry_at}
use Rattle.sheet.specs.Ranges.{amount}
use Rattle.sheet_refusal.proofs.table.entries_in_range.Given as goal

abbrev pub invariant-loop-k : goal.invariant-loop-k
invariant-loop-k l = ltb l.signs 0x8000_0000_0000_0000 ≡ all (λ (k : ℕ). amount l.sheet (entry_at l.sheet k)) l.k
