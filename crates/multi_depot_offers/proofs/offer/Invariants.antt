-- `multi_depot_offers::offer` meets its contract. Assumes nothing.
use Rattle.multi_depot_offers.proofs.Moving.{Moving}
use Rattle.multi_depot_offers.proofs.offer.Given as goal

abbrev pub invariant-loop-row : goal.invariant-loop-row
invariant-loop-row l = Moving l.sheet l.initial.at l.at l.any l.row
