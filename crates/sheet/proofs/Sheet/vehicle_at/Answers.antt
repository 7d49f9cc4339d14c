-- `sheet::Sheet::vehicle_at` meets its contract. Assumes nothing.
use Rattle.sheet.specs.Values.{vehicle_of}
use Rattle.sheet.specs.Laws.Finite.{vehicle_numbers}
use Rattle.sheet.specs.Fields.{depot_field, id_field}
use Rattle.sheet.proofs.Sheet.vehicle_at.Goals as goal

pub limit_at-max_distance-requires-clause-t : goal.limit_at-max_distance-requires-clause-t
limit_at-max_distance-requires-clause-t c = rw (c.start-at.ensures.0, ← c.self.view_is) (vehicle_numbers _ c.self.invariant.accepted c.args.index (rw c.self.view_is c.requires)).distance

pub limit_at-max_duration-requires-clause-t : goal.limit_at-max_duration-requires-clause-t
limit_at-max_duration-requires-clause-t c = rw (c.start-at.ensures.0, ← c.self.view_is) (vehicle_numbers _ c.self.invariant.accepted c.args.index (rw c.self.view_is c.requires)).duration

pub rest_at-rest-requires-clause-vehicle_numbers : goal.rest_at-rest-requires-clause-vehicle_numbers
rest_at-rest-requires-clause-vehicle_numbers c = rw (c.start-at.ensures.0, ← c.self.view_is) (vehicle_numbers _ c.self.invariant.accepted c.args.index (rw c.self.view_is c.requires))

pub f64_at-requires-clause-t : goal.f64_at-requires-clause-t
f64_at-requires-clause-t c = rw (c.start-at.ensures.0, ← c.self.view_is) (vehicle_numbers _ c.self.invariant.accepted c.args.index (rw c.self.view_is c.requires)).cost

pub f64_at-requires-2-clause-t : goal.f64_at-requires-2-clause-t
f64_at-requires-2-clause-t c = rw (c.start-at.ensures.0, ← c.self.view_is) (vehicle_numbers _ c.self.invariant.accepted c.args.index (rw c.self.view_is c.requires)).fixed

pub returns-clause-value : goal.returns-clause-value
unfolding vehicle_of id_field depot_field
returns-clause-value c = rw (← c.start-at.ensures.0, ← c.self.view_is, c.f64_at-2.ensures, c.f64_at.ensures, c.u32_at-3.ensures, c.u32_at-2.ensures, c.u32_at.ensures, c.rest_at-rest.ensures, c.limit_at-max_duration.ensures, c.limit_at-max_distance.ensures)
