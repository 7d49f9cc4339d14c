-- `plan_reader::read_plan` meets its contract. Assumes nothing.
use mathlib.Core.Path.{sym, ◌∙◌}
use Rattle.plan.specs.Read.{rounds_at}
use Rattle.plan_reader.proofs.Rounding.{lent}
use Rattle.plan_reader.proofs.Outcome.{fails, reads}
use Rattle.plan_reader.proofs.read_plan.Goals as goal

pub returns-then-not-each_once-clause-read_as : goal.returns-then-not-each_once-clause-read_as
returns-then-not-each_once-clause-read_as c = let w = c.read_chains.ensures in
    fails (lent c.requires w.as_long) (rw c.in_ok-total.was at w.chains_as) (sym c.each_once.ensures ∙ c.if-not-each_once.true)

pub returns-clause-read_as : goal.returns-clause-read_as
unfolding rounds_at
returns-clause-read_as c = let w = c.read_chains.ensures in
    reads (lent c.requires w.as_long) (rw c.in_ok-total.was at w.chains_as) (rw (sym c.each_once.ensures ∙ c.if-not-each_once.false) tt) c.u16_at.result c.u16_at.ensures
