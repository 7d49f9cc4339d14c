-- Slots that are lent in a struct.
use Rattle.std.specs.Prelude.{◌≡◌}
use Rattle.clarke_wright_slots.specs.declared.RouteSlots.{RouteSlots}

-- the struct before and after: it holds the slices that it held
-- (a clause: who is lent the struct could put others in it, and then its owner would know nothing of his own)
pub record SlotsLent (before after : RouteSlots) : Type 0 where
  pub cells : after.cells.ghost_name ≡ before.cells.ghost_name
  pub lens : after.lens.ghost_name ≡ before.lens.ghost_name
  pub loads : after.loads.ghost_name ≡ before.loads.ghost_name
  pub slots : after.slots.ghost_name ≡ before.slots.ghost_name
