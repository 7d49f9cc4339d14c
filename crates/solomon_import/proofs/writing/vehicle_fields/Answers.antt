-- `solomon_import::writing::vehicle_fields` meets its contract (`Made.antt`). Assumes nothing.
use mir.Syntax.{w32}
use mir.ValLaws.{to_z-of_z}
use Rattle.solomon_import.proofs.Made.{vehicle_made}
use Rattle.solomon_import.proofs.writing.vehicle_fields.Goals as goal

pub returns : goal.returns
returns c = vehicle_made c.args.capacity _ (to_z-of_z w32 c.args.capacity c.ranges.capacity)
