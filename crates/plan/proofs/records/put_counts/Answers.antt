-- `plan::records::put_counts` meets its contract. Assumes nothing.
use native.Mathlib.Omega.{arith}
use Rattle.evaluation_clock.specs.Serve.{rest_place}
use Rattle.plan.specs.Plan.{round_counts}
use Rattle.wire.proofs.Run.{then, wrote}
use Rattle.plan.proofs.records.put_counts.Goals as goal

pub returns : goal.returns
unfolding round_counts
returns c = let a = c.args in
    let last = wrote 4 0 c.put_u32-3.ensures in
    let rested = then (wrote 2 (rest_place a.figures.rest) (rw c.rest_place.ensures at c.put_u16-2.ensures)) last (omega arith) (omega arith) in
    let chained = then (wrote 2 a.first c.put_u16.ensures) rested (omega arith) (omega arith) in
    let loaded = then (wrote 4 a.figures.load c.put_u32-2.ensures) chained (omega arith) (omega arith) in
    (then (wrote 4 a.id c.put_u32.ensures) loaded (omega arith) (omega arith)).same
