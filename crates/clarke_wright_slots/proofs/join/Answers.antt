-- `clarke_wright_slots::join` meets its contract. Assumes nothing.
use Rattle.clarke_wright_slots.proofs.Copying.{join_ends}
use Rattle.clarke_wright_slots.proofs.join.Goals as goal

pub returns-clause-trial_after : goal.returns-clause-trial_after
returns-clause-trial_after c = join_ends c.args.back c.args.forth c.args.into.now c.args.from.now c.args.trial.now _ _ c.requires c.copy_turned.ensures c.copy_turned-2.ensures
