-- `listing_text::put_chain` meets its contract. Assumes nothing.
use Rattle.sheet.specs.Fields.{rows_of}
use Rattle.plan.specs.Read.{chain_of}
use Rattle.listing_text.specs.Text.{concatenated}
use Rattle.listing_text.specs.Listing.{stop_lines}
use Rattle.listing_text.proofs.Following.{Following}
use Rattle.listing_text.proofs.put_chain.Given as goal

abbrev pub invariant-loop-row : goal.invariant-loop-row
invariant-loop-row l = Following l.plan (rows_of l.sheet) l.initial.text l.text (concatenated (stop_lines l.plan (rows_of l.sheet) (chain_of l.sheet l.plan l.first))) l.links l.row

abbrev pub decreases-loop-row : goal.decreases-loop-row
decreases-loop-row l = l.links
