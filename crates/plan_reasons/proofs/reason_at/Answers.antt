-- `plan_reasons::reason_at` meets its contract. Assumes nothing.
use Rattle.plan_reasons.specs.Reasons.{reason_at}
use Rattle.plan_reasons.proofs.reason_at.Goals as goal

pub returns : goal.returns
unfolding reason_at
returns c = rw (← c.rows.ensures.value, ← c.visit_place.ensures.0) c.u16_at.ensures
