-- `probe::asked::rounds_right` meets its contract. Assumes nothing.
use borrow.Author.Tests.{eq-eqb, le-leb, le-ltb, lt-leb, lt-ltb, ne_eqb}
use Rattle.probe.specs.Promises.{rounds_right}
use Rattle.probe.proofs.asked.rounds_right.Goals as goal

pub returns-then-len-eq0 : goal.returns-then-len-eq0
unfolding rounds_right
returns-then-len-eq0 c = rw (eq-eqb _ 0 c.if-len-eq0.true)

pub returns-then-len-gt-MOST_ROWS : goal.returns-then-len-gt-MOST_ROWS
unfolding rounds_right
returns-then-len-gt-MOST_ROWS c = rw (ne_eqb _ 0 c.if-len-eq0.false, lt-leb _ 101 c.if-len-gt-MOST_ROWS.true)

pub returns-then-stops-ge4294967295 : goal.returns-then-stops-ge4294967295
unfolding rounds_right
returns-then-stops-ge4294967295 c = rw (ne_eqb _ 0 c.if-len-eq0.false, le-leb _ 101 c.if-len-gt-MOST_ROWS.false, le-ltb _ 0xffff_ffff c.if-stops-ge4294967295.true)

pub returns-then-stops-len-ne0 : goal.returns-then-stops-len-ne0
unfolding rounds_right
returns-then-stops-len-ne0 c = rw (ne_eqb _ 0 c.if-len-eq0.false, le-leb _ 101 c.if-len-gt-MOST_ROWS.false, lt-ltb _ 0xffff_ffff c.if-stops-ge4294967295.false, ne_eqb _ 0 c.if-stops-len-ne0.true)

pub returns : goal.returns
unfolding rounds_right
returns c = rw (ne_eqb _ 0 c.if-len-eq0.false, le-leb _ 101 c.if-len-gt-MOST_ROWS.false, lt-ltb _ 0xffff_ffff c.if-stops-ge4294967295.false, eq-eqb _ 0 c.if-stops-len-ne0.false) c.rows_right.ensures
