-- `nearest_neighbor_choice::partial::allows` meets its contract. Assumes nothing.
use mathlib.Core.Path.{sym, ◌∙◌}
use Rattle.nearest_neighbor_choice.proofs.Judging.{fits_on_way, fits_home}
use Rattle.nearest_neighbor_choice.proofs.partial.allows.Goals as goal

pub returns-then-allows_on_way : goal.returns-then-allows_on_way
returns-then-allows_on_way c = rw (c.if-allows_on_way.true, ← c.distance-2.ensures, ← c.distance.ensures) (sym (fits_on_way _ _ _ _ _ _ _ (sym c.allows_on_way.ensures ∙ c.if-allows_on_way.true)))

pub returns-else-allows_on_way : goal.returns-else-allows_on_way
returns-else-allows_on_way c = rw (← c.distance-2.ensures, ← c.distance.ensures) (c.allows_home.ensures ∙ sym (fits_home _ _ _ _ _ _ _ (sym c.allows_on_way.ensures ∙ c.if-allows_on_way.false)))
