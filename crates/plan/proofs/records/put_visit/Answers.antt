-- `plan::records::put_visit` meets its contract. Assumes nothing.
use native.Mathlib.Omega.{arith}
use lib.Ieee.{binary64, to_bits}
use Rattle.plan.specs.Plan.{visit_bytes}
use Rattle.wire.proofs.Run.{then, wrote}
use Rattle.plan.proofs.records.put_visit.Goals as goal

pub returns : goal.returns
unfolding visit_bytes
returns c = let a = c.args in
    let last = wrote 8 (to_bits binary64 a.visit.departure) c.put_f64-2.ensures in
    let times = then (wrote 8 (to_bits binary64 a.visit.arrival) c.put_f64.ensures) last (omega arith) (omega arith) in
    let loaded = then (wrote 4 a.visit.load c.put_u32.ensures) times (omega arith) (omega arith) in
    let spare = then (wrote 2 0 c.put_u16-2.ensures) loaded (omega arith) (omega arith) in
    (then (wrote 2 a.next c.put_u16.ensures) spare (omega arith) (omega arith)).same
