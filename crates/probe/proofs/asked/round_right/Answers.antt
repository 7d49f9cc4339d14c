-- `probe::asked::round_right` meets its contract. Assumes nothing.
use borrow.Author.Tests.{le-leb, lt-leb}
use Rattle.probe.specs.Promises.{round_right}
use Rattle.probe.proofs.asked.round_right.Goals as goal

pub returns-then-route-gt-MOST_ROWS : goal.returns-then-route-gt-MOST_ROWS
unfolding round_right
returns-then-route-gt-MOST_ROWS c = rw (lt-leb _ 101 c.if-route-gt-MOST_ROWS.true)

pub returns : goal.returns
unfolding round_right
returns c = rw (le-leb _ 101 c.if-route-gt-MOST_ROWS.false) c.rows_right.ensures
