-- `listing_text::text::Text::put_hex` meets its contract. The measure is the number of digits. Assumes nothing.
use Rattle.std.proofs.Common.{arith}
use Rattle.listing_text.specs.Laws.Listing.{hex_none, hex_more}
use Rattle.listing_text.proofs.Putting.{nothing}
use Rattle.listing_text.proofs.Digits.{front_fits, last_fits, number}
use Rattle.listing_text.proofs.text.Text.+put_hex.Goals as goal

pub returns-then-digits-eq0 : goal.returns-then-digits-eq0
returns-then-digits-eq0 t c = rw (c.if-digits-eq0.true, hex_none) (nothing (rw (c.if-digits-eq0.true, hex_none) at c.requires))

pub put_hex-requires : goal.put_hex-requires
put_hex-requires t c = (omega arith, front_fits c.args.self.now _ _ (hex_more c.args.digits c.args.n c.if-digits-eq0.false) c.requires)

pub put_byte-requires : goal.put_byte-requires
put_byte-requires t c = last_fits c.args.self.now _ _ (hex_more c.args.digits c.args.n c.if-digits-eq0.false) c.requires c.put_hex.ensures

pub returns : goal.returns
returns t c = number c.args.self.now _ _ (hex_more c.args.digits c.args.n c.if-digits-eq0.false) c.requires c.put_hex.ensures (rw c.digit.ensures at c.put_byte.ensures)
