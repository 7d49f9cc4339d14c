-- `plan_reader::next` meets its contract. Assumes nothing.
use Rattle.plan.specs.Read.{next_at}
use Rattle.plan_reader.proofs.next.Goals as goal

pub returns : goal.returns
unfolding next_at
returns c = rw (← c.rows.ensures.value, ← c.visit_place.ensures.0) c.u16_at.ensures
