-- `plan_reader::id_at` meets its contract. Assumes nothing.
use Rattle.sheet.specs.Fields.{id_field}
use Rattle.plan_reader.proofs.id_at.Goals as goal

pub returns : goal.returns
unfolding id_field
returns c = rw (← c.rows.ensures.value, ← c.vehicle_place.ensures, ← c.bytes.ensures.value) c.u32_at.ensures
