-- `solomon_text::lines::next_line` meets its contract. Assumes nothing.
use native.Mathlib.Omega.{arith}
use Rattle.solomon_text.proofs.LineEnds.{no_line_after, lines_after}
use Rattle.solomon_text.proofs.lines.next_line.Goals as goal

pub returns-then-end-text : goal.returns-then-end-text
returns-then-end-text c = let p = c.feed-end.ensures in (omega arith, p.walked.within, no_line_after c.args.text.now c.args.at c.feed-end.result p c.if-end-text.true)

pub returns : goal.returns
returns c = let p = c.feed-end.ensures in (omega arith, omega arith, lines_after c.args.text.now c.args.at c.feed-end.result p (omega arith))
