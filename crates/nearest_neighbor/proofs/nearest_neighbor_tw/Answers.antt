-- `nearest_neighbor::nearest_neighbor_tw` meets its contract. Assumes nothing.
use Rattle.std.proofs.Common.{rules}
use Rattle.nearest_neighbor.specs.Nearest.{nearest_neighbor_tw}
use Rattle.nearest_neighbor.specs.Heuristic.{rule_of}
use Rattle.nearest_neighbor.proofs.nearest_neighbor_tw.Goals as goal

pub returns : goal.returns
unfolding nearest_neighbor_tw rule_of
returns c = record { value = rw (← c.has_soft_windows-soft.ensures) c.lay_rounds.ensures.value; stored = rw (← c.has_soft_windows-soft.ensures) c.lay_rounds.ensures.stored; lent = search rules }
