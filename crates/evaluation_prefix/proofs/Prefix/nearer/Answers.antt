-- `evaluation_prefix::Prefix::nearer` meets its contract. Assumes nothing.
use mathlib.Core.Path.{sym, ◌∙◌}
use Rattle.evaluation_prefix.proofs.WalkingOn.{unasked, nearer}
use Rattle.evaluation_prefix.proofs.Prefix.nearer.Goals as goal

pub returns-clause-walked_before : goal.returns-clause-walked_before
returns-clause-walked_before c = λ depot g. nearer _ _ _ _ _ g _ _ _ c.requires.stops_le_k.0 c.requires.stops_le_k.1 (unasked _ (sym c.is_some.ensures ∙ c.if-is_some.false)) c.in-Some.is c.walk_over.ensures.prev_bound c.walk_over.ensures.stands
