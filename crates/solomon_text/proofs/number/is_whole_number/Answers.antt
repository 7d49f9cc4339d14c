-- `solomon_text::number::is_whole_number` meets its contract. Assumes nothing.
use Rattle.std.proofs.Common.{arith, ◌≡◌, ◌∙◌, length}
use Rattle.std.proofs.lemmas.Grind.{common_steps}
use Rattle.solomon_text.specs.Laws.Numbers.{no_digits, whole_by_digits}
use Rattle.solomon_text.proofs.number.is_whole_number.Goals as goal

pub returns-then-not-is_empty : goal.returns-then-not-is_empty
returns-then-not-is_empty c =
    let d = c.digits-digits in
    c.all_digits.ensures ∙ whole_by_digits c.args.word.now d.result.now d.ensures (grind (arith, common_steps))

pub returns-else-not-is_empty : goal.returns-else-not-is_empty
returns-else-not-is_empty c =
    let d = c.digits-digits in
    let e : length d.result.now ≡ 0 = grind (arith, common_steps) in
    rw c.if-not-is_empty.false (no_digits c.args.word.now d.result.now d.ensures e)
