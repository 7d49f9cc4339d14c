-- `listing_text::lines::put_field` meets its contract. Assumes nothing.
use mathlib.Core.List.{[], ◌∷◌}
use Rattle.listing_text.specs.Text.{decimal}
use Rattle.listing_text.specs.Listing.{field}
use Rattle.listing_text.proofs.Putting.{begins, fits, next, ends}
use Rattle.listing_text.proofs.lines.put_field.Goals as goal

pub put_words-requires : goal.put_words-requires
unfolding field
put_words-requires c = let a = c.args in
    fits (begins a.text.now (a.name.now ∷ decimal a.n ∷ []) c.requires)

pub put_decimal-requires : goal.put_decimal-requires
unfolding field
put_decimal-requires c = let a = c.args in
    fits (next (begins a.text.now (a.name.now ∷ decimal a.n ∷ []) c.requires) c.put_words.ensures)

pub returns : goal.returns
unfolding field
returns c = let a = c.args in
    ends (next (next (begins a.text.now (a.name.now ∷ decimal a.n ∷ []) c.requires) c.put_words.ensures) c.put_decimal.ensures)
