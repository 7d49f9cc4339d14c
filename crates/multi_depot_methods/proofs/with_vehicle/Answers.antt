-- `multi_depot_methods::with_vehicle` meets its contract. Assumes nothing.
use mathlib.Core.Path.{sym}
use Rattle.multi_depot_methods.proofs.Fleets.{savings_so, insertion_so, sweep_so}
use Rattle.std.proofs.Common.{rules}
use Rattle.multi_depot_methods.proofs.with_vehicle.Goals as goal

pub clarke_wright_few-requires : goal.clarke_wright_few-requires
clarke_wright_few-requires c = let p = c.requires in
    record { members = p.members; room = p.room; vehicle_bound = p.vehicle_bound; by_index = p.by_index; routed_bound = p.routed_bound (sym (rw c.in-Savings.is at c.method.ensures)) }

pub returns-in-Savings : goal.returns-in-Savings
returns-in-Savings c = let e = sym (rw c.in-Savings.is at c.method.ensures) in record { value = rw (savings_so _ _ _ _ e) c.clarke_wright_few.ensures.value; stored = rw (savings_so _ _ _ _ e) c.clarke_wright_few.ensures.stored; lent = search rules }

pub returns-in-Insertion : goal.returns-in-Insertion
returns-in-Insertion c = let e = sym (rw c.in-Insertion.is at c.method.ensures) in record { value = rw (insertion_so _ _ _ _ e) c.solomon_i1.ensures.value; stored = rw (insertion_so _ _ _ _ e) c.solomon_i1.ensures.stored; lent = search rules }

pub returns-in-NearestNeighbor : goal.returns-in-NearestNeighbor
returns-in-NearestNeighbor c = rw (sweep_so _ _ _ _ c.method.ensures c.in-NearestNeighbor.is) record { value = c.sweep.ensures.value; stored = c.sweep.ensures.stored; lent = search rules }
