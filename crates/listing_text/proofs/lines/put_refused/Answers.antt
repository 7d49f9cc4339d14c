-- `listing_text::lines::put_refused` meets its contract. Assumes nothing.
use mathlib.Core.List.{[], ◌∷◌}
use Rattle.listing_text.specs.Text.{text}
use Rattle.listing_text.specs.Listing.{field, refused_text}
use Rattle.listing_text.proofs.Putting.{begins, fits, next, ends}
use Rattle.listing_text.proofs.lines.put_refused.Goals as goal

pub put_field-requires : goal.put_field-requires
unfolding refused_text
put_field-requires c = let a = c.args in
    fits (begins a.text.now (field (text "refused ") a.number ∷ (10 ∷ []) ∷ []) c.requires)

pub put_byte-requires : goal.put_byte-requires
unfolding refused_text
put_byte-requires c = let a = c.args in
    fits (next (begins a.text.now (field (text "refused ") a.number ∷ (10 ∷ []) ∷ []) c.requires) c.put_field.ensures)

pub returns : goal.returns
unfolding refused_text
returns c = let a = c.args in
    ends (next (next (begins a.text.now (field (text "refused ") a.number ∷ (10 ∷ []) ∷ []) c.requires) c.put_field.ensures) c.put_byte.ensures)
