-- `plan::write_rounds` meets its contract. Assumes nothing.
use native.Mathlib.Omega.{arith}
use Rattle.constructive.proofs.InTables.{round_of}
use Rattle.plan.specs.Laws.Written.{writable}
use Rattle.plan.proofs.Counting.{goes_on, ends_plan, ends_price}
use Rattle.plan.proofs.write_rounds.Goals as goal

pub write_priced-cost-requires-clause-round_of : goal.write_priced-cost-requires-clause-round_of
write_priced-cost-requires-clause-round_of c = rw (c.vehicle_of.ensures, c.route.ensures) (round_of _ _ _ _ _ _ c.requires.round_tables.1 _ (omega arith))

pub write_priced-cost-requires-clause-writable : goal.write_priced-cost-requires-clause-writable
write_priced-cost-requires-clause-writable c = writable _ c.requires.round_tables.1.sheet

pub loop-k-preserved : goal.loop-k-preserved
loop-k-preserved c = let w = c.write_priced-cost in
    goes_on _ _ _ _ _ _ _ _ _ c.loop-k.invariant _ _ (omega arith) w.auto.plan (rw (c.vehicle_of.ensures, c.route.ensures) at w.ensures.plan_after) (rw (c.vehicle_of.ensures, c.route.ensures) at w.ensures.value)

pub returns : goal.returns
returns c = record {
  value = ends_price _ _ _ _ _ _ _ _ _ c.loop-k.invariant (omega arith);
  plan_after = ends_plan _ _ _ _ _ _ _ _ _ c.loop-k.invariant (omega arith);
}
