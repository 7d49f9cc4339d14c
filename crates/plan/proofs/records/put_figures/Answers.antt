-- `plan::records::put_figures` meets its contract. Assumes nothing.
use native.Mathlib.Omega.{arith}
use lib.Ieee.{binary64, to_bits}
use Rattle.evaluation_clock.specs.Serve.{rest_start}
use Rattle.plan.specs.Plan.{round_figures}
use Rattle.wire.proofs.Run.{then, wrote}
use Rattle.plan.proofs.records.put_figures.Goals as goal

pub returns : goal.returns
unfolding round_figures
returns c = let a = c.args.figures in
    let last = wrote 8 (to_bits binary64 (rest_start a.rest)) (rw c.rest_start.ensures at c.put_f64-5.ensures) in
    let priced = then (wrote 8 (to_bits binary64 a.lateness_cost) c.put_f64-4.ensures) last (omega arith) (omega arith) in
    let late = then (wrote 8 (to_bits binary64 a.lateness) c.put_f64-3.ensures) priced (omega arith) (omega arith) in
    let timed = then (wrote 8 (to_bits binary64 a.duration) c.put_f64-2.ensures) late (omega arith) (omega arith) in
    (then (wrote 8 (to_bits binary64 a.distance) c.put_f64.ensures) timed (omega arith) (omega arith)).same
