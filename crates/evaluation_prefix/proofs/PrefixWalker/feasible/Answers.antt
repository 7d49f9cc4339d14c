-- `evaluation_prefix::PrefixWalker::feasible` meets its contract. Assumes nothing.
use mathlib.Core.Path.{refl, ◌∙◌, ap}
use native.Mathlib.Omega.{arith}
use Rattle.evaluation.specs.Verdict.{is_feasible}
use Rattle.evaluation.specs.Feasible.{route_feasible}
use Rattle.evaluation.proofs.ByRest.{by_rest}
use Rattle.evaluation_prefix.proofs.WalkingOn.{whole}
use Rattle.evaluation_prefix.proofs.PrefixWalker.feasible.Goals as goal

pub returns : goal.returns
unfolding route_feasible
returns c = c.kept_by.ensures ∙ ap is_feasible (by_rest _ _ _ _ _ _ (c.requires.knows.unrested (omega (arith, c.if-at-eq0.false))) refl (whole _ _ _ _ _ c.requires.knows _ c.walk_on.ensures))
