-- `nearest_neighbor::nearest_neighbor` meets its contract. Assumes nothing.
use Rattle.nearest_neighbor.specs.Nearest.{nearest_neighbor}
use Rattle.nearest_neighbor.specs.Heuristic.{rule_of}
use Rattle.nearest_neighbor.proofs.nearest_neighbor.Goals as goal

pub returns : goal.returns
unfolding nearest_neighbor rule_of
returns c = record { value = c.lay_rounds.ensures.value; stored = c.lay_rounds.ensures.stored; lent = c.lay_rounds.ensures.lent }
