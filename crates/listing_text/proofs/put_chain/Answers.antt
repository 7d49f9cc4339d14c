-- `listing_text::put_chain` meets its contract. Assumes nothing.
use native.Mathlib.Omega.{arith}
use Rattle.sheet.specs.Fields.{rows_of}
use Rattle.plan.specs.Read.{next_at}
use Rattle.listing_text.proofs.Following.{starts, done, row_in, line_fits, last, goes_on}
use Rattle.listing_text.proofs.put_chain.Goals as goal

pub rows-links-requires : goal.rows-links-requires
rows-links-requires c = omega (arith, c.requires.listable.sized.long)

pub loop-row-init : goal.loop-row-init
loop-row-init c = let a = c.args in
    rw c.rows-links.ensures (starts a.plan.now (rows_of a.sheet.now) a.text.now (rows_of a.sheet.now) a.first c.requires.stops c.requires.text_room)

pub put_stop_line-requires : goal.put_stop_line-requires
put_stop_line-requires c = let f = c.loop-row.invariant in
    let h = c.loop-row-test.true in
    record {
      listable = c.requires.listable;
      row_bound = row_in f h;
      text_room = line_fits f h;
    }

pub returns-then-links-eq0 : goal.returns-then-links-eq0
returns-then-links-eq0 c = last c.loop-row.invariant c.loop-row-test.true c.put_stop_line.ensures c.if-links-eq0.true

pub overflow_sub-links : goal.overflow_sub-links
overflow_sub-links c = omega arith

pub overflow_cast-row : goal.overflow_cast-row
overflow_cast-row c = omega (arith, row_in c.loop-row.invariant c.loop-row-test.true, c.requires.listable.rows)

pub visit_place-requires : goal.visit_place-requires
visit_place-requires c = rw c.rows.ensures (c.requires.listable.sized.rows, row_in c.loop-row.invariant c.loop-row-test.true)

pub u16_at-row-requires : goal.u16_at-row-requires
u16_at-row-requires c = omega (arith, c.requires.listable.long, c.visit_place.ensures.1, c.rows.ensures)

pub loop-row-smaller : goal.loop-row-smaller
loop-row-smaller c = omega arith

pub loop-row-preserved : goal.loop-row-preserved
unfolding next_at
loop-row-preserved c = rw (c.u16_at-row.ensures, c.visit_place.ensures.0, c.rows.ensures) (goes_on c.loop-row.invariant c.loop-row-test.true c.put_stop_line.ensures c.if-links-eq0.false)

pub returns : goal.returns
returns c = done c.loop-row.invariant c.loop-row-test.false
