-- `listing_text::text::Text::put_decimal` meets its contract. The measure is the number. Assumes nothing.
use Rattle.std.proofs.Common.{arith}
use Rattle.listing_text.specs.Laws.Listing.{decimal_low, decimal_high}
use Rattle.listing_text.proofs.Digits.{front_fits, last_fits, number}
use Rattle.listing_text.proofs.text.Text.+put_decimal.Goals as goal

pub put_byte-requires : goal.put_byte-requires
put_byte-requires t c = rw (decimal_low c.args.n c.if-n-lt10.true) at c.requires

pub returns-then-n-lt10 : goal.returns-then-n-lt10
returns-then-n-lt10 t c = rw (decimal_low c.args.n c.if-n-lt10.true, ← c.digit.ensures) c.put_byte.ensures

pub put_decimal-requires : goal.put_decimal-requires
put_decimal-requires t c = (omega arith, front_fits c.args.self.now _ _ (decimal_high c.args.n c.if-n-lt10.false) c.requires)

pub put_byte-requires-2 : goal.put_byte-requires-2
put_byte-requires-2 t c = last_fits c.args.self.now _ _ (decimal_high c.args.n c.if-n-lt10.false) c.requires c.put_decimal.ensures

pub returns : goal.returns
returns t c = number c.args.self.now _ _ (decimal_high c.args.n c.if-n-lt10.false) c.requires c.put_decimal.ensures (rw c.digit-2.ensures at c.put_byte-2.ensures)
