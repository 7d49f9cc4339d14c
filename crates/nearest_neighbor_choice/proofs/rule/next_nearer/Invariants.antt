-- `nearest_neighbor_choice::rule::next_nearer` meets its contract. Assumes nothing.
use Rattle.std.proofs.Common.{◌≡◌, ℕ, ◌≤◌, ◌<◌, false, get_or}
use Rattle.sheet.specs.Values.{distance_of}
use Rattle.nearest_neighbor_choice.specs.Choice.{wins_of}
use Rattle.nearest_neighbor_choice.proofs.rule.next_nearer.Given as goal

abbrev pub invariant-loop-j : goal.invariant-loop-j
invariant-loop-j l = (j : ℕ) → l.start ≤ j → j < l.j → wins_of (distance_of l.sheet l.from (get_or l.left j 0)) l.best ≡ false
