-- `evaluation_prefix::PrefixWalker::eval` meets its contract. Assumes nothing.
use mathlib.Core.Path.{refl, ◌∙◌, ap}
use native.Mathlib.Omega.{arith}
use Rattle.evaluation.specs.Verdict.{eval_of}
use Rattle.evaluation.specs.Feasible.{route_eval}
use Rattle.evaluation.proofs.ByRest.{by_rest}
use Rattle.evaluation_prefix.proofs.WalkingOn.{whole}
use Rattle.evaluation_prefix.proofs.PrefixWalker.eval.Goals as goal

pub returns : goal.returns
unfolding route_eval
returns c = c.eval_by.ensures ∙ ap eval_of (by_rest _ _ _ _ _ _ (c.requires.knows.unrested (omega (arith, c.if-at-eq0.false))) refl (whole _ _ _ _ _ c.requires.knows _ c.walk_on.ensures))
