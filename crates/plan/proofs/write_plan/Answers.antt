-- `plan::write_plan` meets its contract. Assumes nothing.
use mathlib.Core.Path.{◌∙◌}
use Prim.Native.Nat.{◌≤◌}
use native.Mathlib.Omega.{arith}
use lib.ListN.{length}
use Rattle.plan.proofs.Planning.{part, chained, number, planned}
use Rattle.plan.proofs.write_plan.Goals as goal

pub offset_bounds-tables-start : goal.offset_bounds-tables-start
offset_bounds-tables-start c = let lent : (c.start_of-start.result ≤ c.args.total) × (c.args.total ≤ length c.args.tables.now.stops.now) = let a = c.args in part a.sheet.now a.tables.now.stops.now a.tables.now.ends.now a.tables.now.vehicles.now a.rounds a.total c.requires.tables c.start_of-start.result c.start_of-start.ensures in
    omega (arith, lent)

pub slice_bounds-write_aside-count : goal.slice_bounds-write_aside-count
slice_bounds-write_aside-count c = let lent : (c.start_of-start.result ≤ c.args.total) × (c.args.total ≤ length c.args.tables.now.stops.now) = let a = c.args in part a.sheet.now a.tables.now.stops.now a.tables.now.ends.now a.tables.now.vehicles.now a.rounds a.total c.requires.tables c.start_of-start.result c.start_of-start.ensures in
    (lent).0

pub write_aside-aside-requires : goal.write_aside-aside-requires
write_aside-aside-requires c = let a = c.args in
    record {
      chained = chained a.sheet.now a.tables.now.stops.now a.tables.now.ends.now a.tables.now.vehicles.now a.rounds a.total c.requires.tables c.start_of-start.result c.start_of-start.ensures;
      plan_len = c.write_rounds-price.auto.plan ∙ c.fill.auto.self ∙ c.requires.plan_len;
    }

pub put_header-requires : goal.put_header-requires
put_header-requires c = let a = c.args in record {
  in_bounds = omega (arith, c.write_aside-aside.auto.plan, c.write_rounds-price.auto.plan, c.fill.auto.self, c.requires.plan_len);
  number = rw (c.cost_of.ensures, c.write_rounds-price.ensures.value) (number a.sheet.now a.tables.now.stops.now a.tables.now.ends.now a.tables.now.vehicles.now a.rounds a.total c.requires.tables c.start_of-start.result c.start_of-start.ensures a.priced);
}

pub returns : goal.returns
returns c = let a = c.args in
    let w = c.write_rounds-price in
    let x = c.write_aside-aside in
    planned a.sheet.now a.tables.now.stops.now a.tables.now.ends.now a.tables.now.vehicles.now a.rounds a.total c.requires.tables c.start_of-start.result c.start_of-start.ensures a.priced a.plan.now c.fill.new.self w.new.plan x.new.plan c.put_header.new.plan x.result c.rows.result w.result c.cost_of.result c.requires.plan_len (c.fill.ensures.after (λ y e. e)) w.ensures.value w.ensures.plan_after x.ensures.value x.ensures.plan_after c.rows.ensures.value c.cost_of.ensures c.put_header.ensures
