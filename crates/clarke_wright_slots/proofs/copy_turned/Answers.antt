-- `clarke_wright_slots::copy_turned` meets its contract. Assumes nothing.
use Rattle.std.proofs.Common.{length, refl}
use Rattle.wire.specs.Laws.Overwrite.{put_part}
use Rattle.clarke_wright_slots.proofs.copy_turned.Goals as goal

pub returns : goal.returns
returns c = let r = c.args.route.now in rw (c.if-back.false, c.copy_from_slice.ensures.after) (put_part c.args.to.now 0 (length r) r refl)
