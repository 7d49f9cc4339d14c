-- `plan::write_priced` meets its contract. Assumes nothing.
use native.Mathlib.Omega.{arith}
use Rattle.plan.specs.Plan.{price_after}
use Rattle.plan.proofs.write_priced.Goals as goal

pub limits_at-limits-requires : goal.limits_at-limits-requires
limits_at-limits-requires c = let r = c.requires.round_of in (r.vehicle, omega (arith, r.routed.home))

pub write_round-figures-requires : goal.write_round-figures-requires
write_round-figures-requires c = let r = c.requires.round_of in
    let w = c.requires.writable.round _ r in
    rw (c.vehicle_at-vehicle.ensures.value, c.limits_at-limits.ensures) (record { routed = r.routed; k_bound = c.requires.k_bound; round_writable = w })

pub returns : goal.returns
unfolding price_after
returns c = let e = c.vehicle_at-vehicle.ensures.value in
    let f = c.limits_at-limits.ensures in
    let w = c.write_round-figures.ensures in
    record {
      value = rw (c.price_with.ensures, w.value, e, f);
      plan_after = rw (e, f) at w.plan_after;
    }
