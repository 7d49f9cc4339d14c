-- Tables that hold rounds from their start on, and behind them the stops set aside.
use Rattle.std.specs.Prelude.{◌≡◌, ℕ, ◌≤◌, List, [], length, take}
use Rattle.constructive.specs.declared.tables.Filled.{Filled}
use Rattle.constructive.specs.Outcome.{Round, Outcome, chains}
use Rattle.constructive.specs.Members.{part}
use Rattle.constructive.specs.Stored.{ends_from, vehicles_from, routed_in}

-- the tables, how far they are filled, and the rounds
pub record HoldsRounds (stops ends vehicles : List ℕ) (f : Filled) (rounds : List Round) : Type 0 where
  pub count : f.rounds ≡ length rounds
  pub routed : f.routed ≡ routed_in rounds
  pub stopped : take f.routed stops ≡ chains rounds []
  pub ended : take f.rounds ends ≡ ends_from 0 rounds
  pub driven : take f.rounds vehicles ≡ vehicles_from rounds

-- an outcome: its rounds, and behind them the stops set aside, up to `total`
pub record HoldsOutcome (stops ends vehicles : List ℕ) (f : Filled) (total : ℕ) (o : Outcome) : Type 0 where
  pub holds : HoldsRounds stops ends vehicles f o.rounds
  pub from : f.routed ≤ total
  pub within : total ≤ length stops
  pub aside : part stops f.routed total ≡ o.aside
