-- `probe::probe_figure` meets its contract. Assumes nothing.
use mathlib.Core.Path.{ap}
use lib.Ieee.{neg, of_bits}
use Rattle.probe.specs.declared.asked.Driver.{Driver}
use Rattle.probe.specs.Figures.{probe_figure}
use Rattle.probe.proofs.Right.{passed, routed_of}
use Rattle.probe.proofs.probe_figure.Goals as goal

pub returns-in_default : goal.returns-in_default
unfolding probe_figure of_bits neg
returns-in_default c = rw (rw c.in_default.is at c.driver_of.ensures)

pub returns-then-not-round_right : goal.returns-then-not-round_right
unfolding probe_figure of_bits neg
returns-then-not-round_right c = let d = c.in-Some.ensures in
    rw (d.asked, ← ap (λ (x : Driver). x.rows) d.same, ← c.round_right.ensures, c.if-not-round_right.true)

pub figure-requires : goal.figure-requires
figure-requires c = let d = c.in-Some.ensures in
    rw (d.same, c.new.ensures) (routed_of _ _ _ d.right (passed (rw d.same at c.round_right.ensures) c.if-not-round_right.false))

pub returns : goal.returns
unfolding probe_figure
returns c = let d = c.in-Some.ensures in
    rw (d.asked, ← rw d.same at c.round_right.ensures, c.if-not-round_right.false) (rw (d.same, c.new.ensures) at c.figure.ensures)
