-- Tables that are lent in a struct.
use Rattle.std.specs.Prelude.{◌≡◌}
use Rattle.constructive.specs.declared.tables.RouteTables.{RouteTables}

-- the struct before and after: it holds the slices that it held
-- (a clause: who is lent the struct could put others in it, and then its owner would know nothing of his own)
pub record Lent (before after : RouteTables) : Type 0 where
  pub stops : after.stops.ghost_name ≡ before.stops.ghost_name
  pub ends : after.ends.ghost_name ≡ before.ends.ghost_name
  pub vehicles : after.vehicles.ghost_name ≡ before.vehicles.ghost_name
