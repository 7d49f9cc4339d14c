-- What the limiter's functions ask of the tables, and what they leave in them.
use Rattle.std.specs.Prelude.{◌≡◌, ℕ, ◌<◌, Bool, List, length}
use Rattle.sheet.specs.Fields.{rows_of, most_rows}
use Rattle.evaluation.specs.Checks.{has_time_windows, has_soft_windows}
use Rattle.constructive.specs.Outcome.{Outcome, outcome_in}
use Rattle.constructive.specs.Tables.{Tables}
use Rattle.fleet.specs.Limit.{Refit, refit_on}
use Rattle.fleet_cheapest.specs.declared.Windows.{Windows}
use Rattle.fleet_cheapest.specs.Promises.{WindowsOf}

abbrev pub windows_in : List ℕ → List ℕ → Windows
windows_in s stops = record { any = has_time_windows s 0 stops; soft = has_soft_windows s 0 stops }

-- tables of n rounds and `total` stops, with this outcome
pub record TablesHold (s stops ends vehicles : List ℕ) (n total : ℕ) (o : Outcome) : Type 0 where
  pub tables : Tables s stops ends vehicles n total
  pub outcome : outcome_in stops ends vehicles n total ≡ o

-- what is known of the windows, and that a round has room for a stop more, even one of all `total` stops (a clause, as `Tables`)
pub record Triable (s : List ℕ) (w : Windows) (total : ℕ) : Type 0 where
  pub windows : WindowsOf s w
  pub some : 0 < rows_of s
  pub few : total < most_rows

-- ---- the stops that a dropped round leaves: those that no round takes are set aside
abbrev pub pending_first : Outcome → Refit
pending_first o = record { rounds = o.rounds; pending = o.aside }

abbrev pub set_down : Refit → Outcome
set_down x = record { rounds = x.rounds; aside = x.pending }

abbrev pub refit_outcome : List ℕ → Bool → Refit → Outcome
refit_outcome s soft x = set_down (refit_on s soft (length x.pending) x)
