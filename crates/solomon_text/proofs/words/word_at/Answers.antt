-- `solomon_text::words::word_at` meets its contract. Assumes nothing.
use Rattle.std.proofs.Common.{arith}
use Rattle.solomon_text.proofs.WordWalk.{seeking_begins, seeking_goes_on, seeking_in_vain, seeking_ends}
use Rattle.solomon_text.proofs.words.word_at.Goals as goal

pub loop-init : goal.loop-init
loop-init c = seeking_begins c.args.line.now c.args.n

pub returns-in_default : goal.returns-in_default
returns-in_default c = seeking_in_vain c.args.line.now c.loop.rest.now c.args.n c.loop.counter c.loop.invariant c.in_default.ensures

pub loop-preserved : goal.loop-preserved
loop-preserved c = seeking_goes_on c.args.line.now c.loop.rest.now c.in-Some.field-0-0.now c.in-Some.after.now c.args.n c.loop.counter c.loop-test.true c.loop.invariant c.in-Some.ensures

pub returns-in-Some-first_word : goal.returns-in-Some-first_word
returns-in-Some-first_word c = seeking_ends c.args.line.now c.loop.rest.now c.in-Some-first_word.word.now c.in-Some-first_word.field-0-1.now c.args.n c.loop.counter (omega arith) c.loop.invariant c.in-Some-first_word.ensures

pub returns-in-None : goal.returns-in-None
returns-in-None c = seeking_in_vain c.args.line.now c.loop.rest.now c.args.n c.loop.counter c.loop.invariant c.in-None.ensures
