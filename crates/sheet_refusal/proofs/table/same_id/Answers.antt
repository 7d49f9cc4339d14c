-- `sheet_refusal::table::same_id` meets its contract. Assumes nothing.
use Rattle.sheet.specs.Ranges.{same_id}
use Rattle.sheet.specs.Fields.{id_field}
use Rattle.sheet_refusal.proofs.table.same_id.Goals as goal

pub returns : goal.returns
unfolding same_id id_field
returns c = rw (c.u32_at-2.ensures, c.u32_at.ensures, c.vehicle_place-2.ensures, c.vehicle_place.ensures, c.rows-rows.ensures)
