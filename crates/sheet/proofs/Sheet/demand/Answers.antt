-- `sheet::Sheet::demand` meets its contract. Assumes nothing.
use Rattle.sheet.specs.Values.{demand_of}
use Rattle.sheet.proofs.Sheet.demand.Goals as goal

pub returns : goal.returns
unfolding demand_of
returns c = rw (← c.self.view_is) (rw c.row_place.ensures at c.u32_at.ensures)
