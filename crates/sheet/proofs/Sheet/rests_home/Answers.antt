-- `sheet::Sheet::rests_home` meets its contract. Assumes nothing.
use Rattle.sheet.specs.Values.{rests_home_at}
use Rattle.sheet.specs.Fields.{vehicle_marks}
use Rattle.sheet.proofs.Sheet.rests_home.Goals as goal

pub returns : goal.returns
unfolding rests_home_at vehicle_marks
returns c = rw (← c.start-at.ensures.0, ← c.self.view_is, ← c.u32_at.ensures) c.has_mark.ensures
