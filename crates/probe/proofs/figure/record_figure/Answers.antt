-- `probe::figure::record_figure` meets its contract. Assumes nothing.
use borrow.Author.Tests.{le-ltb, lt-ltb}
use Rattle.probe.specs.Figures.{record_figure}
use Rattle.probe.proofs.figure.record_figure.Goals as goal

pub returns-then-which-lt6 : goal.returns-then-which-lt6
unfolding record_figure
returns-then-which-lt6 c = rw (lt-ltb _ 6 c.if-which-lt6.true) c.six.ensures

pub returns : goal.returns
unfolding record_figure
returns c = rw (le-ltb _ 6 c.if-which-lt6.false)
