-- `listing_text::lines::put_header_line` meets its contract. Assumes nothing.
use Rattle.plan.specs.Read.{rounds_at, aside_at}
use Rattle.listing_text.specs.Listing.{header_line, header_parts}
use Rattle.listing_text.proofs.Putting.{begins, fits, next, ends}
use Rattle.listing_text.proofs.lines.put_header_line.Goals as goal

pub put_field-requires : goal.put_field-requires
unfolding header_line rounds_at aside_at
put_field-requires c = let a = c.args in
    rw c.u16_at.ensures (fits (begins a.text.now (header_parts a.plan.now) c.requires.text_room))

pub put_field-requires-2 : goal.put_field-requires-2
unfolding header_line rounds_at aside_at
put_field-requires-2 c = let a = c.args in
    let l = next (begins a.text.now (header_parts a.plan.now) c.requires.text_room) (rw c.u16_at.ensures at c.put_field.ensures) in
    rw c.u16_at-2.ensures (fits l)

pub put_byte-requires : goal.put_byte-requires
unfolding header_line rounds_at aside_at
put_byte-requires c = let a = c.args in
    let l = next (begins a.text.now (header_parts a.plan.now) c.requires.text_room) (rw c.u16_at.ensures at c.put_field.ensures) in
    fits (next l (rw c.u16_at-2.ensures at c.put_field-2.ensures))

pub returns : goal.returns
unfolding header_line rounds_at aside_at
returns c = let a = c.args in
    let l = next (begins a.text.now (header_parts a.plan.now) c.requires.text_room) (rw c.u16_at.ensures at c.put_field.ensures) in
    ends (next (next l (rw c.u16_at-2.ensures at c.put_field-2.ensures)) c.put_byte.ensures)
