-- `sheet::rows` meets its contract. Assumes nothing.
use Rattle.sheet.specs.Fields.{rows_of}
use Rattle.sheet.proofs.rows.Goals as goal

pub returns : goal.returns
unfolding rows_of
returns c = c.u16_at.ensures
