-- `wire::u64_at` meets its contract. Assumes nothing.
use Rattle.std.proofs.Common.{◌∙◌}
use Rattle.wire.proofs.Wide.{eight_taken}
use Rattle.wire.proofs.u64_at.Goals as goal

pub returns : goal.returns
returns c = c.from_le_bytes.ensures ∙ eight_taken c.args.s.now c.args.at c.unwrap.result (rw c.unwrap.ensures at c.try_into.ensures).1.same
