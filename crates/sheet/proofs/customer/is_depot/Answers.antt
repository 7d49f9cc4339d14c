-- `sheet::customer::is_depot` meets its contract. Assumes nothing.
use Rattle.sheet.specs.Fields.{row_marks}
use Rattle.sheet.proofs.customer.is_depot.Goals as goal

pub returns : goal.returns
unfolding row_marks
returns c = rw (c.has_mark.ensures, c.u32_at.ensures, c.row_place.ensures)
