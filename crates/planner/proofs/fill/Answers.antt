-- `planner::fill` meets its contract. Assumes nothing.
use Rattle.std.proofs.Common.{rules, ◌∙◌}
use Rattle.planner.specs.Answer.{plan_for}
use Rattle.planner.proofs.fill.Goals as goal

pub write_reasons-requires : goal.write_reasons-requires
write_reasons-requires c κs within = (search rules, (c.aside_of-aside.ensures.chained, (c.write_plan.auto.plan ∙ c.requires, (search rules, search rules))))

pub returns : goal.returns
unfolding plan_for
returns c = rw (c.write_reasons.ensures, c.aside_of-aside.ensures.value, c.write_plan.ensures, c.as_ref-tables.ensures.stops, c.as_ref-tables.ensures.ends, c.as_ref-tables.ensures.vehicles, c.stops_in-total.ensures, c.bytes.ensures.value, c.is_priced.ensures, c.outcome-filled.ensures.outcome_stored.outcome)
