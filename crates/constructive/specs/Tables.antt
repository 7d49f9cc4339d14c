-- What is asked of the tables of an outcome.
use Rattle.std.specs.Prelude.{◌≡◌, ℕ, ◌≤◌, ◌<◌, List, [], ◌∷◌, length, get_or}
use Rattle.sheet.specs.Fields.{rows_of, vehicles_of, most_rows}
use Rattle.sheet.specs.Accepted.{Accepted}
use Rattle.sheet.specs.Values.{vehicle_of}
use Rattle.evaluation.specs.Routed.{Routed}
use Rattle.constructive.specs.Outcome.{start_in, Round}

-- n rounds, `total` stops with those set aside (a clause, not an invariant: of the sheet, the tables and two numbers that move while
-- rounds are laid down)
pub record Tables (s stops ends vehicles : List ℕ) (n total : ℕ) : Type 0 where
  pub sheet : Accepted s
  pub few : n ≤ rows_of s
  pub ended : n ≤ length ends
  pub fleet : n ≤ length vehicles
  pub all : total ≤ length stops
  pub most : total ≤ most_rows
  pub ascending : (k : ℕ) → k < n → start_in ends k ≤ get_or ends k 0
  pub within : (k : ℕ) → k < n → get_or ends k 0 ≤ total
  pub row : (i : ℕ) → i < total → get_or stops i 0 < rows_of s
  pub vehicle : (k : ℕ) → k < n → get_or vehicles k 0 < vehicles_of s

-- the rounds alone
abbrev pub RoundTables : List ℕ → List ℕ → List ℕ → List ℕ → ℕ → Type 0
RoundTables s stops ends vehicles n = (total : ℕ) × Tables s stops ends vehicles n total

-- tables that are as long as they were: what a loop that fills them anew goes by
-- (a clause: of a slice in a struct that is lent a proof knows no length once a call took it)
pub record AsLong (stops ends vehicles stops' ends' vehicles' : List ℕ) : Type 0 where
  pub stopped : length stops' ≡ length stops
  pub ended : length ends' ≡ length ends
  pub driven : length vehicles' ≡ length vehicles

-- a round of a vehicle of the sheet
pub record RoundOf (s : List ℕ) (r : Round) : Type 0 where
  pub vehicle : r.vehicle < vehicles_of s
  pub routed : Routed s (vehicle_of s r.vehicle).depot r.stops

unfoldable pub RoundsOf : List ℕ → List Round → Type 0
RoundsOf s [] = Unit
RoundsOf s (r ∷ rs) = RoundOf s r × RoundsOf s rs
