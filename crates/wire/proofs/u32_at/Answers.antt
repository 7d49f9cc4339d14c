-- `wire::u32_at` meets its contract. Assumes nothing.
use Rattle.std.proofs.Common.{◌∙◌}
use Rattle.wire.proofs.Wide.{four}
use Rattle.wire.proofs.u32_at.Goals as goal

pub returns : goal.returns
returns c = c.from_le_bytes.ensures ∙ four c.args.s.now c.args.at
