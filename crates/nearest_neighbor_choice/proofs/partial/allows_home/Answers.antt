-- `nearest_neighbor_choice::partial::allows_home` meets its contract. Assumes nothing.
use mathlib.Core.Path.{◌≡◌, ◌∙◌}
use mathlib.Core.Bool.{Bool, true, false, ◌&&◌}
use Rattle.nearest_neighbor_choice.specs.Partial.{allows_home}
use Rattle.nearest_neighbor_choice.proofs.partial.allows_home.Goals as goal

marked : (a b : Bool) → a ≡ true → b ≡ (a && b)
marked a b e = rw e

unmarked : (a b : Bool) → a ≡ false → a ≡ (a && b)
unmarked a b e = rw e

pub returns-in-None : goal.returns-in-None
unfolding allows_home
returns-in-None c = rw c.in-None.is

pub returns-then-limits : goal.returns-then-limits
unfolding allows_home
returns-then-limits c = rw c.in-Some.is (c.keeps_home.ensures ∙ marked c.args.limits.at_home _ c.if-limits.true)

pub returns-else-limits : goal.returns-else-limits
unfolding allows_home
returns-else-limits c = rw c.in-Some.is (unmarked c.args.limits.at_home _ c.if-limits.false)
