-- `listing_text::lines::put_figures` meets its contract. Assumes nothing.
use Rattle.listing_text.specs.Listing.{figures_text, figure_parts}
use Rattle.listing_text.proofs.Putting.{begins, fits, next, ends}
use Rattle.listing_text.proofs.lines.put_figures.Goals as goal

pub put_word-requires : goal.put_word-requires
unfolding figures_text
put_word-requires c = let a = c.args in
    rw c.u64_at.ensures (fits (begins a.text.now (figure_parts a.plan.now a.place) c.requires.text_room))

pub put_word-requires-2 : goal.put_word-requires-2
unfolding figures_text
put_word-requires-2 c = let a = c.args in
    let l = next (begins a.text.now (figure_parts a.plan.now a.place) c.requires.text_room) (rw c.u64_at.ensures at c.put_word.ensures) in
    rw c.u64_at-2.ensures (fits l)

pub put_byte-requires : goal.put_byte-requires
unfolding figures_text
put_byte-requires c = let a = c.args in
    let l = next (begins a.text.now (figure_parts a.plan.now a.place) c.requires.text_room) (rw c.u64_at.ensures at c.put_word.ensures) in
    fits (next l (rw c.u64_at-2.ensures at c.put_word-2.ensures))

pub returns : goal.returns
unfolding figures_text
returns c = let a = c.args in
    let l = next (begins a.text.now (figure_parts a.plan.now a.place) c.requires.text_room) (rw c.u64_at.ensures at c.put_word.ensures) in
    ends (next (next l (rw c.u64_at-2.ensures at c.put_word-2.ensures)) c.put_byte.ensures)
