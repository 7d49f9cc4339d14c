-- `nearest_neighbor_choice::partial::allows_on_way` meets its contract. Assumes nothing.
use Rattle.nearest_neighbor_choice.specs.Partial.{allows_on_way}
use Rattle.nearest_neighbor_choice.proofs.partial.allows_on_way.Goals as goal

pub returns-in-None : goal.returns-in-None
unfolding allows_on_way
returns-in-None c = rw (c.in-None.is, c.allow.ensures)

pub returns-in-Some : goal.returns-in-Some
unfolding allows_on_way
returns-in-Some c = rw (c.in-Some.is, c.keeps_with.ensures)
