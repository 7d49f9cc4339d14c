-- `sheet::vehicles` meets its contract. Assumes nothing.
use Rattle.sheet.specs.Fields.{vehicles_of}
use Rattle.sheet.proofs.vehicles.Goals as goal

pub returns : goal.returns
unfolding vehicles_of
returns c = c.u16_at.ensures
