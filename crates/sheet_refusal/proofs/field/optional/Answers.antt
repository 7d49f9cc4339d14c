-- `sheet_refusal::field::optional` meets its contract. Assumes nothing.
use Rattle.std.proofs.Common.{sym}
use Rattle.wire.specs.Bytes.{u64_at}
use Rattle.numbers.specs.Laws.Patterns.{pattern_order}
use Rattle.sheet.specs.Ranges.{optional, zero_bits}
use Rattle.sheet_refusal.proofs.Fields.{at_most_none}
use Rattle.sheet_refusal.proofs.field.optional.Goals as goal
use Rattle.sheet_refusal.proofs.field.optional.Goals.{then-present, else-present}

pub returns : goal.returns
unfolding optional zero_bits
returns c =
    let n = u64_at c.args.sheet.now c.args.at in
    elim c.if-present.branch [
      | then-present w ↦ rw (w.most-is, w.if-present.true, c.u64_at.ensures) (sym (pattern_order n c.args.max c.requires.max_finite))
      | else-present w ↦ rw (w.most-is, w.if-present.false, c.u64_at.ensures) (at_most_none n)
    ]
