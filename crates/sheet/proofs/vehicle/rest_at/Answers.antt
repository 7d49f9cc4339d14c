-- `sheet::vehicle::rest_at` meets its contract. Assumes nothing.
use Rattle.sheet.specs.Values.{rest_after}
use Rattle.sheet.specs.Fields.{vehicle_marks}
use Rattle.sheet.proofs.vehicle.rest_at.Goals as goal

pub returns-then-not-has_mark : goal.returns-then-not-has_mark
unfolding rest_after vehicle_marks
returns-then-not-has_mark c = rw (← c.u32_at.ensures, ← c.has_mark.ensures, c.if-not-has_mark.true)

pub returns : goal.returns
unfolding rest_after vehicle_marks
returns c = rw (← c.u32_at.ensures, ← c.has_mark.ensures, c.if-not-has_mark.false, c.f64_at-3.ensures, c.f64_at-2.ensures, c.f64_at.ensures)
