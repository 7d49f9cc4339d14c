-- `planner_limiting::limit_read` meets its contract. Assumes nothing.
use native.Mathlib.Omega.{arith}
use Rattle.std.proofs.Common.{ap, ◌∙◌, ◌≡◌, ◌≤◌, length}
use Rattle.std.proofs.lemmas.List.{get_or-replicate}
use Rattle.sheet.specs.Fields.{rows_of}
use Rattle.constructive.specs.Outcome.{Outcome, outcome_in}
use Rattle.plan.specs.Read.{read_plan}
use Rattle.plan_reader.specs.Reading.{stop_count}
use Rattle.plan_reasons.specs.Copying.{Copied}
use Rattle.fleet.specs.Limit.{limit_routes}
use Rattle.planner_limiting.proofs.PlanOut.{read_out}
use Rattle.planner_limiting.proofs.limit_read.Goals as goal

pub copy_reasons-requires-clause-all_dropped : goal.copy_reasons-requires-clause-all_dropped
copy_reasons-requires-clause-all_dropped c row h = get_or-replicate 101 row 8 0 h

pub returns-clause-plan_out_after : goal.returns-clause-plan_out_after
returns-clause-plan_out_after c =
    let a = c.args in
    let t = a.tables.now in
    let n = c.limit_routes-left.new.tables in
    let total = c.stops_in-total.result in
    let o : Outcome = outcome_in n.stops.now n.ends.now n.vehicles.now c.limit_routes-left.result total in
    let counted : total ≡ stop_count a.sheet.now = c.stops_in-total.ensures ∙ ap stop_count c.bytes.ensures.value in
    let before : outcome_in t.stops.now t.ends.now t.vehicles.now a.rounds total ≡ read_plan a.sheet.now a.plan_in.now = rw counted c.requires.outcome in
    let fits : rows_of a.sheet.now ≤ length c.copy_reasons.new.why = omega (arith, c.copy_reasons.auto.why, c.requires.limitable.tables.sheet.sized.rows) in
    let copied : Copied a.sheet.now a.plan_in.now (read_plan a.sheet.now a.plan_in.now).aside c.copy_reasons.new.why = rw (c.aside_of-earlier.ensures.value, c.as_ref.ensures.stops, c.as_ref.ensures.ends, c.as_ref.ensures.vehicles, before) at c.copy_reasons.ensures in
    let same : o ≡ limit_routes a.sheet.now a.greatest (read_plan a.sheet.now a.plan_in.now) = c.limit_routes-left.ensures.total_after ∙ ap (limit_routes a.sheet.now a.greatest) before in
    let limited = c.as_ref-tables.ensures in
    rw (c.write_reasons.ensures, c.aside_of-aside.ensures.value, c.write_plan.ensures, limited.stops, limited.ends, limited.vehicles)
    (read_out a.sheet.now a.plan_in.now a.greatest c.copy_reasons.new.why fits copied o same (rw (c.aside_of-aside.ensures.value, limited.stops, limited.ends, limited.vehicles) at c.aside_of-aside.ensures.chained))
