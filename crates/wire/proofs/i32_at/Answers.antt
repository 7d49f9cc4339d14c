-- `wire::i32_at` meets its contract. Assumes nothing.
use Rattle.std.proofs.Common.{ap, ◌∙◌}
use Rattle.std.specs.Int.{w32}
use Rattle.std.proofs.lemmas.Int.{of_z-to_z}
use Rattle.wire.specs.Bytes.{signed}
use Rattle.wire.proofs.Wide.{as_signed}
use Rattle.wire.proofs.i32_at.Goals as goal

pub returns : goal.returns
returns c = let n = c.u32_at.result in rw (c.cast_signed.ensures, of_z-to_z w32 n c.u32_at.type_inv) (as_signed n ∙ ap signed c.u32_at.ensures)
