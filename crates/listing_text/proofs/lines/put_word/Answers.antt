-- `listing_text::lines::put_word` meets its contract. Assumes nothing.
use mathlib.Core.List.{[], ◌∷◌}
use Rattle.listing_text.specs.Text.{hex16}
use Rattle.listing_text.specs.Listing.{word}
use Rattle.listing_text.proofs.Putting.{begins, fits, next, ends}
use Rattle.listing_text.proofs.lines.put_word.Goals as goal

pub put_byte-requires : goal.put_byte-requires
unfolding word
put_byte-requires c = let a = c.args in
    fits (begins a.text.now ((32 ∷ []) ∷ hex16 a.bits ∷ []) c.requires)

pub put_hex-requires : goal.put_hex-requires
unfolding word
put_hex-requires c = let a = c.args in
    fits (next (begins a.text.now ((32 ∷ []) ∷ hex16 a.bits ∷ []) c.requires) c.put_byte.ensures)

pub returns : goal.returns
unfolding word
returns c = let a = c.args in
    ends (next (next (begins a.text.now ((32 ∷ []) ∷ hex16 a.bits ∷ []) c.requires) c.put_byte.ensures) c.put_hex.ensures)
