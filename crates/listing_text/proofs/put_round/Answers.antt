-- `listing_text::put_round` meets its contract. Assumes nothing.
use mathlib.Core.List.{[], ◌∷◌}
use native.Mathlib.Omega.{arith}
use Rattle.sheet.specs.Fields.{rows_of}
use Rattle.plan.specs.Read.{first_stop_at, chain_of}
use Rattle.listing_text.specs.Text.{concatenated}
use Rattle.listing_text.specs.Listing.{round_line, stop_lines, round_text}
use Rattle.listing_text.proofs.Putting.{begins, fits, next, ends}
use Rattle.listing_text.proofs.put_round.Goals as goal

pub put_round_line-requires : goal.put_round_line-requires
unfolding round_text first_stop_at
put_round_line-requires c = let a = c.args in
    record {
      k_in_bounds = omega (arith, c.requires.listable.long, c.requires.k_bound);
      text_room = fits (begins a.text.now (round_line a.plan.now a.k ∷ concatenated (stop_lines a.plan.now (rows_of a.sheet.now) (chain_of a.sheet.now a.plan.now (first_stop_at a.plan.now a.k))) ∷ []) c.requires.text_room);
    }

pub put_chain-requires : goal.put_chain-requires
unfolding round_text first_stop_at
put_chain-requires c = let a = c.args in
    rw (c.u16_at-first.ensures, c.round_place.ensures) (record { listable = c.requires.listable; stops = c.requires.stops; text_room = fits (next (begins a.text.now (round_line a.plan.now a.k ∷ concatenated (stop_lines a.plan.now (rows_of a.sheet.now) (chain_of a.sheet.now a.plan.now (first_stop_at a.plan.now a.k))) ∷ []) c.requires.text_room) c.put_round_line.ensures) })

pub returns : goal.returns
unfolding round_text first_stop_at
returns c = let a = c.args in
    ends (next (next (begins a.text.now (round_line a.plan.now a.k ∷ concatenated (stop_lines a.plan.now (rows_of a.sheet.now) (chain_of a.sheet.now a.plan.now (first_stop_at a.plan.now a.k))) ∷ []) c.requires.text_room) c.put_round_line.ensures) (rw (c.u16_at-first.ensures, c.round_place.ensures) at c.put_chain.ensures))
