-- Rounds entered one by one in the tables of ends and vehicles, behind those that they hold already.
use Rattle.std.specs.Prelude.{◌≡◌, ℕ, List}
use Rattle.wire.specs.Bytes.{write}
use Rattle.constructive.specs.declared.tables.Filled.{Filled}
use Rattle.constructive.specs.Outcome.{Round}
use Rattle.constructive.specs.Stored.{ends_from, vehicles_from, filled_by}

-- the tables before and how far they were filled, the rounds, the tables after and how far they are filled
pub record Entered (ends₀ vehicles₀ : List ℕ) (f₀ : Filled) (done : List Round) (ends vehicles : List ℕ) (f : Filled) : Type 0 where
  pub ended : ends ≡ write ends₀ f₀.rounds (ends_from f₀.routed done)
  pub driven : vehicles ≡ write vehicles₀ f₀.rounds (vehicles_from done)
  pub count : f ≡ filled_by f₀ done
