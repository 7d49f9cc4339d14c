-- `plan::write_link` meets its contract. Assumes nothing.
use Rattle.plan.specs.Plan.{aside_bytes}
use Rattle.plan.proofs.write_link.Goals as goal

pub returns : goal.returns
unfolding aside_bytes
returns c = rw (← c.rows.ensures.value, ← c.visit_place.ensures.0) c.put_u16.ensures
