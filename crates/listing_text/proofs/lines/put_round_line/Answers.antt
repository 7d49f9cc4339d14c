-- `listing_text::lines::put_round_line` meets its contract. Assumes nothing.
use Rattle.plan.specs.Read.{id_at, first_stop_at}
use Rattle.listing_text.specs.Listing.{round_line, round_parts}
use Rattle.listing_text.proofs.Putting.{begins, fits, next, ends}
use Rattle.listing_text.proofs.lines.put_round_line.Goals as goal

pub put_field-requires : goal.put_field-requires
unfolding round_line id_at first_stop_at
put_field-requires c = let a = c.args in
    let l0 = begins a.text.now (round_parts a.plan.now a.k) c.requires.text_room in
    rw (c.u32_at.ensures, c.round_place-place.ensures) (fits l0)

pub put_field-requires-2 : goal.put_field-requires-2
unfolding round_line id_at first_stop_at
put_field-requires-2 c = let a = c.args in
    let l0 = begins a.text.now (round_parts a.plan.now a.k) c.requires.text_room in
    let l1 = next l0 (rw (c.u32_at.ensures, c.round_place-place.ensures) at c.put_field.ensures) in
    rw (c.u16_at.ensures, c.round_place-place.ensures) (fits l1)

pub put_field-requires-3 : goal.put_field-requires-3
unfolding round_line id_at first_stop_at
put_field-requires-3 c = let a = c.args in
    let l0 = begins a.text.now (round_parts a.plan.now a.k) c.requires.text_room in
    let l1 = next l0 (rw (c.u32_at.ensures, c.round_place-place.ensures) at c.put_field.ensures) in
    let l2 = next l1 (rw (c.u16_at.ensures, c.round_place-place.ensures) at c.put_field-2.ensures) in
    rw (c.u32_at-2.ensures, c.round_place-place.ensures) (fits l2)

pub put_field-requires-4 : goal.put_field-requires-4
unfolding round_line id_at first_stop_at
put_field-requires-4 c = let a = c.args in
    let l0 = begins a.text.now (round_parts a.plan.now a.k) c.requires.text_room in
    let l1 = next l0 (rw (c.u32_at.ensures, c.round_place-place.ensures) at c.put_field.ensures) in
    let l2 = next l1 (rw (c.u16_at.ensures, c.round_place-place.ensures) at c.put_field-2.ensures) in
    let l3 = next l2 (rw (c.u32_at-2.ensures, c.round_place-place.ensures) at c.put_field-3.ensures) in
    rw (c.u16_at-2.ensures, c.round_place-place.ensures) (fits l3)

pub put_figures-requires-clause-text_room : goal.put_figures-requires-clause-text_room
unfolding round_line id_at first_stop_at
put_figures-requires-clause-text_room c = let a = c.args in
    let l0 = begins a.text.now (round_parts a.plan.now a.k) c.requires.text_room in
    let l1 = next l0 (rw (c.u32_at.ensures, c.round_place-place.ensures) at c.put_field.ensures) in
    let l2 = next l1 (rw (c.u16_at.ensures, c.round_place-place.ensures) at c.put_field-2.ensures) in
    let l3 = next l2 (rw (c.u32_at-2.ensures, c.round_place-place.ensures) at c.put_field-3.ensures) in
    let l4 = next l3 (rw (c.u16_at-2.ensures, c.round_place-place.ensures) at c.put_field-4.ensures) in
    rw c.round_place-place.ensures (fits l4)

pub returns : goal.returns
unfolding round_line id_at first_stop_at
returns c = let a = c.args in
    let l0 = begins a.text.now (round_parts a.plan.now a.k) c.requires.text_room in
    let l1 = next l0 (rw (c.u32_at.ensures, c.round_place-place.ensures) at c.put_field.ensures) in
    let l2 = next l1 (rw (c.u16_at.ensures, c.round_place-place.ensures) at c.put_field-2.ensures) in
    let l3 = next l2 (rw (c.u32_at-2.ensures, c.round_place-place.ensures) at c.put_field-3.ensures) in
    let l4 = next l3 (rw (c.u16_at-2.ensures, c.round_place-place.ensures) at c.put_field-4.ensures) in
    ends (next l4 (rw c.round_place-place.ensures at c.put_figures.ensures))
