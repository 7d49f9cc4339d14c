-- `wire::put_u16` meets its contract. Assumes nothing.
use Rattle.std.proofs.Common.{◌∙◌, arith}
use Rattle.wire.proofs.Wide.{put_bytes}
use Rattle.wire.proofs.put_u16.Goals as goal

pub returns : goal.returns
returns c = put_bytes 1 c.args.s.now c.args.at _ c.args.v c.copy_from_slice.new.self (omega arith) (c.copy_from_slice.ensures.after ∙ c.to_le_bytes.ensures)
