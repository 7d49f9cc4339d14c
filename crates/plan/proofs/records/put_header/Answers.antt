-- `plan::records::put_header` meets its contract. Assumes nothing.
use native.Mathlib.Omega.{arith}
use lib.Ieee.{binary64, to_bits}
use Rattle.plan.specs.Plan.{header_bytes}
use Rattle.wire.proofs.Run.{then, wrote}
use Rattle.plan.proofs.records.put_header.Goals as goal

pub returns : goal.returns
unfolding header_bytes
returns c = let a = c.args in
    let last = wrote 8 (to_bits binary64 a.cost) c.put_f64.ensures in
    let spare = then (wrote 2 0 c.put_u16-4.ensures) last (omega arith) (omega arith) in
    let counted = then (wrote 2 a.rows c.put_u16-3.ensures) spare (omega arith) (omega arith) in
    let chained = then (wrote 2 a.aside c.put_u16-2.ensures) counted (omega arith) (omega arith) in
    (then (wrote 2 a.rounds c.put_u16.ensures) chained (omega arith) (omega arith)).same
