-- Two's complement at 32 bits, there and back. Assumes nothing.
use Rattle.std.specs.Prelude.{◌≡◌, ◌-◌, ◌<◌, ℤ, pos, negsuc}
use Rattle.std.proofs.Common.{ap, ◌∙◌, arith}
use Rattle.std.specs.Int.Signed.{mag}
use Rattle.std.proofs.Math.Arith.{sub-sub_self}
use Rattle.wire.specs.Bytes.{signed}
use Rattle.wire.specs.Laws.Bytes.{signed_low, signed_high}
use Rattle.sheet_writer.specs.Sheet.{unsigned}

pub signed_unsigned : (z : ℤ) → mag z < 0x8000_0000 → signed (unsigned z) ≡ z
signed_unsigned (pos n) h = signed_low n h
signed_unsigned (negsuc n) h = signed_high (0xffff_ffff - n) (omega arith) ∙ ap negsuc (sub-sub_self {a = n} {m = 0xffff_ffff} (omega arith))

pub unsigned_lt : (z : ℤ) → mag z < 0x8000_0000 → unsigned z < 0x1_0000_0000
unsigned_lt (pos n) h = omega arith
unsigned_lt (negsuc n) h = omega arith
