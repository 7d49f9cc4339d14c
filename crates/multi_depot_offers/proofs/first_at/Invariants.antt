-- `multi_depot_offers::first_at` meets its contract. Assumes nothing.
use Rattle.multi_depot_offers.proofs.Firsts.{Firsts}
use Rattle.multi_depot_offers.proofs.first_at.Given as goal

abbrev pub invariant-loop-row : goal.invariant-loop-row
invariant-loop-row l = Firsts l.sheet l.at l.row
