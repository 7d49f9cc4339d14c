-- `listing_text::write_listing` meets its contract. Assumes nothing.
use native.Mathlib.Omega.{arith}
use Rattle.listing_text.specs.Laws.Length.{listing_short}
use Rattle.listing_text.proofs.write_listing.Goals as goal

pub put_listing-requires-clause-text_room : goal.put_listing-requires-clause-text_room
put_listing-requires-clause-text_room c = let a = c.args in
    let l = listing_short a.sheet.now a.plan.now c.requires.listable (λ i. let f = c.type_inv.plan i in omega arith) in
    omega (arith, c.requires.in_bounds)
