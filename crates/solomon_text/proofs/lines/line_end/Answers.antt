-- `solomon_text::lines::line_end` meets its contract. Assumes nothing.
use native.Mathlib.Omega.{arith}
use Rattle.solomon_text.proofs.LineEnds.{line_last, line_empty, line_returned, line_fed_only}
use Rattle.solomon_text.proofs.lines.line_end.Goals as goal

pub returns-then-end-text : goal.returns-then-end-text
returns-then-end-text c = let p = c.feed-end.ensures in (p.walked.from, p.walked.within, line_last c.args.text.now c.args.at c.feed-end.result p c.if-end-text.true)

pub returns-then-end-at : goal.returns-then-end-at
returns-then-end-at c = let p = c.feed-end.ensures in (p.walked.from, p.walked.within, line_empty c.args.text.now c.args.at c.feed-end.result p (omega arith) c.if-end-at.true)

pub returns-then-text-end-eq13 : goal.returns-then-text-end-eq13
returns-then-text-end-eq13 c = let p = c.feed-end.ensures in (omega arith, omega arith, line_returned c.args.text.now c.args.at c.feed-end.result p (omega arith) (omega arith) c.if-text-end-eq13.true)

pub returns : goal.returns
returns c = let p = c.feed-end.ensures in (p.walked.from, p.walked.within, line_fed_only c.args.text.now c.args.at c.feed-end.result p (omega arith) (omega arith) c.if-text-end-eq13.false)
