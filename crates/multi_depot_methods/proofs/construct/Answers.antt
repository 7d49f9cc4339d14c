-- `multi_depot_methods::construct` meets its contract. Assumes nothing.
use mathlib.Core.Path.{refl}
use Rattle.multi_depot_methods.proofs.Fleets.{few, known, first_taken, nearest_so, window_so, none_so, with_taken, not_nearest, not_window}
use Rattle.std.proofs.Common.{rules}
use Rattle.multi_depot_methods.proofs.construct.Goals as goal

pub slice_bounds-fleet-end : goal.slice_bounds-fleet-end
slice_bounds-fleet-end c = let p = c.requires in
    let g = c.fleet_of-n.ensures in
    few p.ready g.value g.fleet_after

pub nearest_neighbor-requires : goal.nearest_neighbor-requires
nearest_neighbor-requires c = let p = c.requires in
    let g = c.fleet_of-n.ensures in
    record { members = p.ready.members; room = p.ready.room; fleet = known p.ready g.value g.fleet_after }

pub returns-in-NearestNeighbor : goal.returns-in-NearestNeighbor
returns-in-NearestNeighbor c = let p = c.requires in
    let g = c.fleet_of-n.ensures in
    let m = rw c.in-NearestNeighbor.is at c.method-method.ensures in
    rw (nearest_so p.ready g.value g.fleet_after m refl) record { value = c.nearest_neighbor.ensures.value; stored = c.nearest_neighbor.ensures.stored; lent = search rules }

pub nearest_neighbor_tw-requires : goal.nearest_neighbor_tw-requires
nearest_neighbor_tw-requires c = let p = c.requires in
    let g = c.fleet_of-n.ensures in
    record { members = p.ready.members; room = p.ready.room; fleet = known p.ready g.value g.fleet_after }

pub returns-in-NearestNeighborTw : goal.returns-in-NearestNeighborTw
returns-in-NearestNeighborTw c = let p = c.requires in
    let g = c.fleet_of-n.ensures in
    let m = rw c.in-NearestNeighborTw.is at c.method-method.ensures in
    rw (window_so p.ready g.value g.fleet_after m refl) record { value = c.nearest_neighbor_tw.ensures.value; stored = c.nearest_neighbor_tw.ensures.stored; lent = search rules }

pub returns-then-n-eq0 : goal.returns-then-n-eq0
returns-then-n-eq0 c = let p = c.requires in
    let g = c.fleet_of-n.ensures in
    let m = c.method-method.ensures in
    let both = none_so p.ready g.value g.fleet_after m (not_nearest c.in-Savings.is) (not_window c.in-Savings.is) c.if-n-eq0.true in record { value = both.0; stored = both.1; lent = search rules }

pub with_vehicle-requires : goal.with_vehicle-requires
with_vehicle-requires c = let p = c.requires in
    let g = c.fleet_of-n.ensures in
    record { members = p.ready.members; room = p.ready.room; vehicle_bound = first_taken p.ready g.value g.fleet_after c.if-n-eq0.false; by_index = p.ready.once; routed_bound = p.routed_bound }

pub returns-else-n-eq0 : goal.returns-else-n-eq0
returns-else-n-eq0 c = let p = c.requires in
    let g = c.fleet_of-n.ensures in
    let m = c.method-method.ensures in
    rw (with_taken p.ready g.value g.fleet_after m (not_nearest c.in-Savings.is) (not_window c.in-Savings.is) c.if-n-eq0.false) record { value = c.with_vehicle.ensures.value; stored = c.with_vehicle.ensures.stored; lent = search rules }
