-- `clarke_wright_savings::push` meets its contract. Assumes nothing.
use Rattle.clarke_wright_savings.proofs.Pushing.{pushes}
use Rattle.clarke_wright_savings.proofs.push.Goals as goal

pub returns : goal.returns
returns c = let a = c.args in pushes a.from.now a.to.now a.values.now a.entries.now a.at c.requires.space (record { from = a.start; to = a.end; value = a.value })
