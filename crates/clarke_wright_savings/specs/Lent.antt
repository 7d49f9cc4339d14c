-- Savings' tables that are lent in a struct.
use Rattle.std.specs.Prelude.{◌≡◌}
use Rattle.clarke_wright_savings.specs.declared.Savings.{Savings}

-- the struct before and after: it holds the slices that it held (a clause: `Lent` of the tables of a plan says why)
pub record SavingsLent (before after : Savings) : Type 0 where
  pub starts : after.from.ghost_name ≡ before.from.ghost_name
  pub ends : after.to.ghost_name ≡ before.to.ghost_name
  pub saved : after.values.ghost_name ≡ before.values.ghost_name
  pub placed : after.entries.ghost_name ≡ before.entries.ghost_name
