-- `sheet_writer::put_header` meets its contract: five numbers one after another. Assumes nothing.
use mathlib.Core.Path.{ap, ◌∙◌}
use Prim.Native.Nat.{◌+◌, ◌*◌}
use native.Mathlib.Omega.{arith}
use Rattle.wire.specs.Bytes.{write}
use Rattle.sheet_writer.proofs.Header.{header_written}
use Rattle.wire.proofs.Run.{then, wrote}
use Rattle.sheet_writer.proofs.put_header.Goals as goal

pub returns : goal.returns
returns c = let a = c.args in
    let last = wrote 8 0 c.put_u64.ensures in
    let spare = then (wrote 2 0 c.put_u16-4.ensures) last (omega arith) (omega arith) in
    let bytes = then (wrote 2 (a.method + 0x100 * a.times) c.put_u16-3.ensures) spare (omega arith) (omega arith) in
    let vehicles = then (wrote 2 a.vehicles c.put_u16-2.ensures) bytes (omega arith) (omega arith) in
    (then (wrote 2 a.rows c.put_u16.ensures) vehicles (omega arith) (omega arith)).same ∙ ap (write a.sheet.now 0) (header_written a.rows a.vehicles a.method a.times c.ranges.method.fits)
