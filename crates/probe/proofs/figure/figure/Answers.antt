-- `probe::figure::figure` meets its contract. Assumes nothing.
use borrow.Author.Tests.{le-ltb, lt-ltb}
use Rattle.probe.specs.Figures.{figure_of}
use Rattle.probe.proofs.figure.figure.Goals as goal

pub returns-then-which-lt6 : goal.returns-then-which-lt6
unfolding figure_of
returns-then-which-lt6 c = rw (lt-ltb _ 6 c.if-which-lt6.true, ← c.route_eval.ensures) c.eval_figure.ensures

pub returns-then-which-lt13 : goal.returns-then-which-lt13
unfolding figure_of
returns-then-which-lt13 c = rw (le-ltb _ 6 c.if-which-lt6.false, lt-ltb _ 13 c.if-which-lt13.true, ← c.build_route.ensures) c.record_figure.ensures

pub returns : goal.returns
unfolding figure_of
returns c = rw (le-ltb _ 6 c.if-which-lt6.false, le-ltb _ 13 c.if-which-lt13.false) c.visit_figures.ensures
