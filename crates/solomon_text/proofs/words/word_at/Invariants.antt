-- `solomon_text::words::word_at` meets its contract. Assumes nothing.
use Rattle.solomon_text.proofs.WordWalk.{Seeking}
use Rattle.solomon_text.proofs.words.word_at.Given as goal

abbrev pub invariant-loop : goal.invariant-loop
invariant-loop l = Seeking l.line l.n l.rest l.counter
