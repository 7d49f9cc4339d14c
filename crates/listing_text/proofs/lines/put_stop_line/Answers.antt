-- `listing_text::lines::put_stop_line` meets its contract. Assumes nothing.
use Rattle.sheet.specs.Fields.{rows_of}
use Rattle.plan.specs.Read.{next_at}
use Rattle.listing_text.specs.Listing.{stop_line, stop_parts}
use Rattle.listing_text.proofs.Putting.{begins, fits, next, ends}
use Rattle.listing_text.proofs.lines.put_stop_line.Goals as goal

pub put_field-requires : goal.put_field-requires
unfolding stop_line next_at
put_field-requires c = let a = c.args in
    let l0 = begins a.text.now (stop_parts a.plan.now (rows_of a.sheet.now) a.row) c.requires.text_room in
    fits l0

pub put_field-requires-2 : goal.put_field-requires-2
unfolding stop_line next_at
put_field-requires-2 c = let a = c.args in
    let l0 = begins a.text.now (stop_parts a.plan.now (rows_of a.sheet.now) a.row) c.requires.text_room in
    let l1 = next l0 c.put_field.ensures in
    rw (c.u16_at.ensures, c.visit_place-place.ensures.0, c.rows.ensures) (fits l1)

pub put_field-requires-3 : goal.put_field-requires-3
unfolding stop_line next_at
put_field-requires-3 c = let a = c.args in
    let l0 = begins a.text.now (stop_parts a.plan.now (rows_of a.sheet.now) a.row) c.requires.text_room in
    let l1 = next l0 c.put_field.ensures in
    let l2 = next l1 (rw (c.u16_at.ensures, c.visit_place-place.ensures.0, c.rows.ensures) at c.put_field-2.ensures) in
    rw (c.u32_at.ensures, c.visit_place-place.ensures.0, c.rows.ensures) (fits l2)

pub put_figures-requires-clause-text_room : goal.put_figures-requires-clause-text_room
unfolding stop_line next_at
put_figures-requires-clause-text_room c = let a = c.args in
    let l0 = begins a.text.now (stop_parts a.plan.now (rows_of a.sheet.now) a.row) c.requires.text_room in
    let l1 = next l0 c.put_field.ensures in
    let l2 = next l1 (rw (c.u16_at.ensures, c.visit_place-place.ensures.0, c.rows.ensures) at c.put_field-2.ensures) in
    let l3 = next l2 (rw (c.u32_at.ensures, c.visit_place-place.ensures.0, c.rows.ensures) at c.put_field-3.ensures) in
    rw (c.visit_place-place.ensures.0, c.rows.ensures) (fits l3)

pub returns : goal.returns
unfolding stop_line next_at
returns c = let a = c.args in
    let l0 = begins a.text.now (stop_parts a.plan.now (rows_of a.sheet.now) a.row) c.requires.text_room in
    let l1 = next l0 c.put_field.ensures in
    let l2 = next l1 (rw (c.u16_at.ensures, c.visit_place-place.ensures.0, c.rows.ensures) at c.put_field-2.ensures) in
    let l3 = next l2 (rw (c.u32_at.ensures, c.visit_place-place.ensures.0, c.rows.ensures) at c.put_field-3.ensures) in
    ends (next l3 (rw (c.visit_place-place.ensures.0, c.rows.ensures) at c.put_figures.ensures))
