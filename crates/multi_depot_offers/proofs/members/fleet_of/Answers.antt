-- `multi_depot_offers::members::fleet_of` meets its contract. Assumes nothing.
use Rattle.std.proofs.Common.{rules, arith, zero-add, length, ◌≤◌}
use native.Mathlib.Nat.{sub-zero}
use Rattle.sheet.specs.Fleet.{fleet_of}
use Rattle.multi_depot_offers.proofs.Manning.{fleet_small}
use Rattle.multi_depot_offers.proofs.members.fleet_of.Goals as goal

pub gather-requires : goal.gather-requires
unfolding fleet_of
gather-requires c κs within =
    let p = c.requires in
    let room : length (fleet_of c.args.sheet.now c.args.depot) ≤ length c.args.fleet.now = omega (arith, fleet_small c.args.sheet.now c.args.depot, p, c.vehicles.ensures.accepted.sized.vehicles) in
    (search rules depth 12 fits 20000, (omega (arith, c.vehicles.ensures.value, c.vehicles.ensures.accepted.sized.vehicles), (search rules, (search rules, rw (c.vehicles.ensures.value, sub-zero, zero-add) room))))
