-- `evaluation_prefix::walk_on` meets its contract. Assumes nothing.
use Rattle.evaluation_prefix.proofs.WalkingOn.{gone}
use Rattle.evaluation_prefix.proofs.walk_on.Goals as goal

pub returns-in_err-from : goal.returns-in_err-from
returns-in_err-from c = rw c.from_residual.ensures (gone _ _ c.args.rows.now _ c.in_err-from.was)
