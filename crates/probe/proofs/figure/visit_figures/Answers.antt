-- `probe::figure::visit_figures` meets its contract. Assumes nothing.
use lib.Ieee.{neg, of_bits}
use lib.ListN.{length}
use borrow.Author.Tests.{le-ltb, lt-ltb}
use Rattle.probe.specs.Figures.{progress_at, visit_figures}
use Rattle.probe.proofs.figure.visit_figures.Goals as goal

pub returns-then-route-last : goal.returns-then-route-last
unfolding visit_figures of_bits neg
returns-then-route-last c = rw (le-ltb _ (length c.args.route.now) c.if-route-last.true)

pub returns : goal.returns
unfolding visit_figures progress_at
returns c = rw (lt-ltb _ (length c.args.route.now) c.if-route-last.false, ← c.place_rest-placed.ensures, ← c.progress_after.ensures.value) c.visit_figure.ensures
