-- `plan::records::put_round` meets its contract. Assumes nothing.
use native.Mathlib.Omega.{arith}
use Rattle.plan.specs.Plan.{round_bytes}
use Rattle.plan.specs.Laws.Plan.{counts_long, figures_long}
use Rattle.wire.proofs.Run.{then}
use Rattle.plan.proofs.records.put_round.Goals as goal

pub returns : goal.returns
unfolding round_bytes
returns c = let a = c.args in
    (then (record { long = counts_long a.id a.first a.figures; same = c.put_counts.ensures })
    (record { long = figures_long a.figures; same = c.put_figures.ensures })
    (omega arith)
    (omega arith)).same
