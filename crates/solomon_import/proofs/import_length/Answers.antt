-- `solomon_import::import_length` meets its contract. Assumes nothing.
use Rattle.solomon_import.specs.Import.{import_length}
use Rattle.solomon_import.proofs.import_length.Goals as goal

pub returns : goal.returns
unfolding import_length
returns c = rw c.vehicle_place.ensures
