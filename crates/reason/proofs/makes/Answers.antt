-- `reason::makes` meets its contract. Assumes nothing.
use Rattle.std.proofs.Common.{eq-eqb}
use Rattle.reason.proofs.Telling.{none_seven}
use Rattle.reason.proofs.makes.Goals as goal

pub returns-then-is_own : goal.returns-then-is_own
returns-then-is_own c =
    rw (← c.vehicle_at.ensures.value, eq-eqb _ _ c.if-is_own.true) (none_seven _ _ _ c.is_none.ensures c.lone_reason.ensures)
