-- `evaluation::limits::limits_at` meets its contract. Assumes nothing.
use mathlib.Core.Path.{◌∙◌, ap}
use native.Mathlib.Omega.{arith}
use Rattle.evaluation.specs.Laws.Limits.{home_row}
use Rattle.sheet.specs.declared.vehicle.Vehicle.{Vehicle}
use Rattle.sheet.specs.Values.{vehicle_of}
use Rattle.evaluation.specs.Limits.{limits_at}
use Rattle.evaluation.proofs.limits.limits_at.Goals as goal

pub stop_at-home-requires : goal.stop_at-home-requires
unfolding vehicle_of
stop_at-home-requires c = let p = c.requires in
    let depot = ap (λ (v : Vehicle). v.depot) c.vehicle_at-vehicle.ensures.value in
    omega (arith, depot, p.1, home_row _ _ c.vehicle_at-vehicle.ensures.accepted p.0 p.1)

pub returns : goal.returns
unfolding limits_at
returns c = c.returning_by.ensures ∙ rw (c.latest_return.ensures, c.rests_home-at_home.ensures, c.stop_at-home.ensures, c.limits_of.ensures, c.vehicle_at-vehicle.ensures.value)
