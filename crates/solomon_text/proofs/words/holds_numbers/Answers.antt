-- `solomon_text::words::holds_numbers` meets its contract. Assumes nothing.
use Rattle.std.proofs.Common.{sym, ◌∙◌}
use Rattle.solomon_text.proofs.WordWalk.{counting_begins, counting_goes_on, counting_fails, counting_ends}
use Rattle.solomon_text.proofs.words.holds_numbers.Goals as goal

pub loop-word-init : goal.loop-word-init
loop-word-init c = counting_begins c.args.line.now

pub returns-then-not-is_whole_number : goal.returns-then-not-is_whole_number
returns-then-not-is_whole_number c = sym (counting_fails c.args.line.now c.loop-word.rest.now c.in-Some.word.now c.in-Some.after.now c.loop-word.count c.loop-word.invariant c.in-Some.ensures c.args.n (sym c.is_whole_number.ensures ∙ c.if-not-is_whole_number.true))

pub loop-word-smaller : goal.loop-word-smaller
loop-word-smaller c = c.in-Some.ensures.shorter

pub loop-word-preserved : goal.loop-word-preserved
loop-word-preserved c = counting_goes_on c.args.line.now c.loop-word.rest.now c.in-Some.word.now c.in-Some.after.now c.loop-word.count c.loop-word.invariant c.in-Some.ensures (sym c.is_whole_number.ensures ∙ c.if-not-is_whole_number.false)

pub returns : goal.returns
returns c = counting_ends c.args.line.now c.loop-word.rest.now c.loop-word.count c.in_default.ensures c.loop-word.invariant c.args.n
