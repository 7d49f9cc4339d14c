-- `solomon_text::words::first_word` meets its contract. Assumes nothing.
use Rattle.std.proofs.Common.{arith}
use Rattle.std.proofs.lemmas.Grind.{common_steps}
use Rattle.std.proofs.lemmas.List.{take_rest}
use Rattle.solomon_text.proofs.WordWalk.{no_first_word, word_first}
use Rattle.solomon_text.proofs.words.first_word.Goals as goal

pub returns-then-is_empty : goal.returns-then-is_empty
returns-then-is_empty c = let line = c.args.line.now in let at = c.blanks.result in
    no_first_word line _ at (take_rest line at) c.blanks.ensures (grind (arith, common_steps))

pub returns : goal.returns
returns c = let line = c.args.line.now in let at = c.blanks.result in
    rw (c.split_at.ensures.front, c.split_at.ensures.back) (word_first line _ at (take_rest line at) c.blanks.ensures c.word_length.result (grind (arith, common_steps)) c.word_length.ensures)
