-- `insertion::places::try_free` meets its contract. Assumes nothing.
use mathlib.Core.Path.{◌∙◌}
use Rattle.insertion.proofs.Freely.{next, all}
use Rattle.insertion.proofs.places.try_free.Goals as goal

pub loop-k-preserved : goal.loop-k-preserved
loop-k-preserved c = next _ _ _ _ _ _ _ _ _ c.loop-k.invariant c.requires.joinable c.requires.constrained_value c.loop-k-test.true _ c.detour-cost.ensures _ (c.rebuilt-done.ensures ∙ c.better-next.ensures)

pub returns : goal.returns
returns c = all _ _ _ _ _ _ _ _ _ c.loop-k.invariant c.loop-k-test.false
