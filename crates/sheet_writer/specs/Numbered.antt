-- What a writer asks of a record: no f64 of it is a NaN, which has no bits of its own.
use Rattle.std.specs.Prelude.{not, T}
use Rattle.std.specs.Float.Ieee.{is_nan}
use Rattle.sheet_writer.specs.declared.RowFields.{RowFields}
use Rattle.sheet_writer.specs.declared.VehicleFields.{VehicleFields}

pub record RowNumbered (r : RowFields) : Type 0 where
  pub service : T (not (is_nan r.service))
  pub ready : T (not (is_nan r.ready))
  pub due : T (not (is_nan r.due))
  pub penalty : T (not (is_nan r.penalty))

pub record VehicleNumbered (v : VehicleFields) : Type 0 where
  pub cost : T (not (is_nan v.cost_per_distance))
  pub fixed : T (not (is_nan v.fixed_cost))
  pub distance : T (not (is_nan v.max_distance))
  pub duration : T (not (is_nan v.max_duration))
  pub earliest : T (not (is_nan v.earliest))
  pub latest : T (not (is_nan v.latest))
  pub rest : T (not (is_nan v.rest_duration))
