-- `solomon_text::lines::first_number_line` meets its contract. Assumes nothing.
use Rattle.std.proofs.Common.{◌≡◌, ◌∙◌, length, arith}
use Rattle.std.proofs.lemmas.Grind.{common_steps}
use Rattle.solomon_text.specs.Lines.{number_lines}
use Rattle.solomon_text.proofs.LineEnds.{no_number_lines}
use Rattle.solomon_text.proofs.lines.first_number_line.Goals as goal

pub returns-then-is_empty : goal.returns-then-is_empty
returns-then-is_empty c =
    let e : length c.args.text.now ≡ 0 = grind (arith, common_steps) in
    (omega arith, no_number_lines c.args.text.now e, λ h. absurd (omega arith))

pub returns : goal.returns
unfolding number_lines
returns c = (c.next_digit_line.ensures.1, c.next_line.ensures.2 ∙ c.next_digit_line.ensures.2, c.next_digit_line.ensures.3)
