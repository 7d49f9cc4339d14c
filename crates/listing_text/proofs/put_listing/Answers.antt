-- `listing_text::put_listing` meets its contract. Assumes nothing.
use native.Mathlib.Omega.{arith}
use Rattle.plan.specs.Read.{aside_at, read_plan}
use Rattle.listing_text.specs.Listing.{listing_parts, listing_of}
use Rattle.listing_text.specs.Laws.Listable.{aside_stops}
use Rattle.listing_text.proofs.Putting.{begins, fits, next, ends}
use Rattle.listing_text.proofs.put_listing.Goals as goal

pub put_header_line-requires : goal.put_header_line-requires
unfolding listing_of
put_header_line-requires c = let a = c.args in
    record {
      in_bounds = omega (arith, c.requires.listable.long);
      text_room = fits (begins a.text.now (listing_parts a.sheet.now a.plan.now) c.requires.text_room);
    }

pub put_rounds-requires : goal.put_rounds-requires
unfolding listing_of
put_rounds-requires c = let a = c.args in
    let l = begins a.text.now (listing_parts a.sheet.now a.plan.now) c.requires.text_room in
    record {
      listable = c.requires.listable;
      text_room = fits (next l c.put_header_line.ensures);
    }

pub put_chain-requires : goal.put_chain-requires
unfolding listing_of aside_at read_plan
put_chain-requires c = let a = c.args in
    let l = begins a.text.now (listing_parts a.sheet.now a.plan.now) c.requires.text_room in
    rw c.u16_at.ensures (record { listable = c.requires.listable; stops = aside_stops a.sheet.now a.plan.now c.requires.listable; text_room = fits (next (next l c.put_header_line.ensures) c.put_rounds.ensures) })

pub returns : goal.returns
unfolding listing_of aside_at read_plan
returns c = let a = c.args in
    let l = begins a.text.now (listing_parts a.sheet.now a.plan.now) c.requires.text_room in
    ends (next (next (next l c.put_header_line.ensures) c.put_rounds.ensures) (rw c.u16_at.ensures at c.put_chain.ensures))
