-- `multi_depot_offers::clear` meets its contract. Assumes nothing.
use Rattle.std.proofs.Common.{◌≡◌, ℕ, ◌<◌, get_or}
use Rattle.multi_depot_offers.proofs.clear.Given as goal

abbrev pub invariant-loop-row : goal.invariant-loop-row
invariant-loop-row l = record {
  gone : (c : ℕ) → c < l.row → get_or l.at c 0 ≡ l.depot → get_or l.marks c 0 ≡ 0;
  kept : (c : ℕ) → (get_or l.at c 0 ≡ l.depot → ⊥) → get_or l.marks c 0 ≡ get_or l.initial.marks c 0;
}
