-- `solomon_text::words::holds_numbers` meets its contract. Assumes nothing.
use lib.ListN.{length}
use Rattle.solomon_text.proofs.WordWalk.{Counting}
use Rattle.solomon_text.proofs.words.holds_numbers.Given as goal

abbrev pub invariant-loop-word : goal.invariant-loop-word
invariant-loop-word l = Counting l.line l.rest l.count

abbrev pub decreases-loop-word : goal.decreases-loop-word
decreases-loop-word l = length l.rest
