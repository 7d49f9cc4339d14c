-- `sheet::vehicle::fixed_cost_in_distance` meets its contract. Assumes nothing.
use Rattle.sheet.specs.Values.{fixed_in_distance}
use Rattle.sheet.proofs.vehicle.fixed_cost_in_distance.Goals as goal

pub returns-then-cost : goal.returns-then-cost
unfolding fixed_in_distance
returns-then-cost c = simp c.if-cost.true

pub returns-else-cost : goal.returns-else-cost
unfolding fixed_in_distance
returns-else-cost c = simp c.if-cost.false
