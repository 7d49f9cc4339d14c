-- `solomon_text::words::number_at` meets its contract. Assumes nothing.
use Rattle.solomon_text.specs.Numbers.{number_at}
use Rattle.solomon_text.proofs.words.number_at.Goals as goal

pub returns : goal.returns
unfolding number_at
returns c = rw (← c.word_at.ensures) c.read.ensures
