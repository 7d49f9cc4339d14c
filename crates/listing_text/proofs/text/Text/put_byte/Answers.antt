-- `listing_text::text::Text::put_byte` meets its contract. Assumes nothing.
use mathlib.Core.Path.{refl}
use native.Mathlib.Omega.{arith}
use lib.ListN.{length-set}
use Rattle.wire.specs.Laws.Bytes.{write_byte}
use Rattle.listing_text.proofs.text.Text.put_byte.Goals as goal

pub returns : goal.returns
returns c = let t = c.args.self.now in
    record {
      same_buffer = refl;
      put = record {
        same = write_byte t.out.now t.end c.args.byte (omega arith);
        long = refl;
        within = omega (arith, length-set t.out.now t.end c.args.byte);
      };
    }
