-- `listing_text::early_refusal` meets its contract. Assumes nothing.
use lib.Dec.{T}
use Rattle.sheet.specs.Refusal.{header_right}
use Rattle.sheet.specs.Laws.Accepted.{header_of}
use Rattle.listing_text.proofs.early_refusal.Goals as goal

pub rows-requires : goal.rows-requires
rows-requires c = let s = c.args.sheet.now in
    let t : T (header_right s) = rw (← c.header_right.ensures, c.if-not-header_right.false) tt in
    (header_of s t).0
