-- `listing_text::write_refused` meets its contract. Assumes nothing.
use native.Mathlib.Omega.{arith}
use Rattle.listing_text.specs.Laws.Length.{refused_short}
use Rattle.listing_text.proofs.write_refused.Goals as goal

pub put_refused-requires : goal.put_refused-requires
put_refused-requires c = let l = refused_short c.args.number (omega arith) in omega arith
