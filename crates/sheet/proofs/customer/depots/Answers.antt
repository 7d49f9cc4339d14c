-- `sheet::customer::depots` meets its contract. Assumes nothing.
use Rattle.std.proofs.Common.{◌∙◌}
use Rattle.sheet.specs.Depots.{depots_of}
use Rattle.sheet.proofs.Leading.{at_least_one_max}
use Rattle.sheet.proofs.customer.depots.Goals as goal

pub returns : goal.returns
unfolding depots_of
returns c = c.max.ensures ∙ rw (c.marked_depots.ensures, c.rows.ensures) (at_least_one_max _)
