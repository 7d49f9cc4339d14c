-- What a depot leaves in the tables that are lent.
use Rattle.std.specs.Prelude.{◌≡◌, ℕ, ◌+◌, ◌≤◌, List, ◌++◌, length}
use Rattle.constructive.specs.Outcome.{Round, Outcome, stops_of}
use Rattle.constructive.specs.Members.{part}
use Rattle.constructive.specs.Tables.{AsLong}
use Rattle.constructive.specs.TableContents.{HoldsRounds}
use Rattle.constructive.specs.declared.tables.Filled.{Filled}

-- its outcome behind the rounds that the tables held: how far they are filled with it, and where its stops set aside end
pub record DepotLaid (stops ends vehicles : List ℕ) (f : Filled) (o : Outcome) (stops' ends' vehicles' : List ℕ) (done : Filled) (total : ℕ) : Type 0 where
  pub holds : (rounds : List Round) → HoldsRounds stops ends vehicles f rounds → HoldsRounds stops' ends' vehicles' done (rounds ++ o.rounds)
  pub count : total ≡ f.routed + length (stops_of o)
  pub from : done.routed ≤ total
  pub within : total ≤ length stops'
  pub aside : part stops' done.routed total ≡ o.aside
  pub long : AsLong stops ends vehicles stops' ends' vehicles'
