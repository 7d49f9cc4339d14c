-- What the functions ask of the tables, and what they leave in them.
use Rattle.std.specs.Prelude.{ℕ, ◌+◌, ◌-◌, ◌≤◌, ◌<◌, Bool, ◌&&◌, ◌||◌, List, [], ◌∷◌, ◌++◌, ltb, eqb, length, get_or}
use Rattle.lists.specs.Moved.{without}
use Rattle.sheet.specs.Accepted.{Accepted}
use Rattle.sheet.specs.Fields.{rows_of, most_rows}
use Rattle.constructive.specs.Outcome.{Outcome, start_in, round_at}
use Rattle.constructive.specs.Load.{load_of}
use Rattle.constructive.specs.Members.{part}
use Rattle.constructive.specs.Tables.{RoundTables}
use Rattle.constructive.specs.TableContents.{HoldsOutcome}
use Rattle.fleet.specs.Limit.{without_round, put_in, ascending}
use Rattle.fleet_tables.specs.declared.Weight.{Weight}

-- ---- the round that is dropped
-- the stops and the ends of tables of n rounds
abbrev pub Ended : List ℕ → List ℕ → List ℕ → ℕ → Type 0
Ended s stops ends n = (vehicles : List ℕ) × RoundTables s stops ends vehicles n

abbrev pub weight_of : List ℕ → List ℕ → Weight
weight_of s route = record { load = load_of s route; stops = length route }

abbrev pub lighter : Weight → Weight → Bool
lighter w than = ltb w.load than.load || (eqb w.load than.load && ltb w.stops than.stops)

-- ---- the tables of n rounds with an outcome
abbrev pub TablesOf : List ℕ → List ℕ → List ℕ → ℕ → ℕ → Outcome → Type 0
TablesOf stops ends vehicles n total o = HoldsOutcome stops ends vehicles (record { rounds = n; routed = start_in ends n }) total o

-- a round less: its stops are set aside, before the others
abbrev pub taken_out : ℕ → Outcome → Outcome
taken_out v o = record { rounds = without_round v o.rounds; aside = (round_at o.rounds v).stops ++ o.aside }

-- the stop at place j of those set aside goes into the round counted i, before its k-th
abbrev pub taken_in : ℕ → ℕ → ℕ → Outcome → Outcome
taken_in j i k o = record { rounds = put_in i k (get_or o.aside j 0) o.rounds; aside = without j o.aside }

pub record Leaves (stops ends vehicles : List ℕ) (n v : ℕ) : Type 0 where
  pub total : ℕ
  pub outcome : Outcome
  pub held : TablesOf stops ends vehicles n total outcome
  pub few : total ≤ most_rows
  pub round : v < n

pub record Enters (stops ends : List ℕ) (n i k j : ℕ) : Type 0 where
  pub vehicles : List ℕ
  pub total : ℕ
  pub outcome : Outcome
  pub held : TablesOf stops ends vehicles n total outcome
  pub few : total ≤ most_rows
  pub round : i < n
  pub place : k ≤ length (round_at outcome.rounds i).stops
  pub from : j < length outcome.aside

-- ---- a table's numbers
abbrev pub decreased : ℕ → List ℕ → List ℕ
decreased less [] = []
decreased less (x ∷ xs) = (x - less) ∷ decreased less xs

abbrev pub increased : List ℕ → List ℕ
increased [] = []
increased (x ∷ xs) = (x + 1) ∷ increased xs

-- the entries behind the one at `at`, of n: each is at least `less`
pub record ClosesUp (table : List ℕ) (at n less : ℕ) : Type 0 where
  pub from : at < n
  pub within : n ≤ length table
  pub least : (k : ℕ) → at < k → k < n → less ≤ get_or table k 0

-- ---- the stops from `from` to `total`, each once: as many as they are in order
pub record Aside (s stops : List ℕ) (from total : ℕ) : Type 0 where
  pub sheet : Accepted s
  pub order : from ≤ total
  pub within : total ≤ length stops
  pub row : (k : ℕ) → from ≤ k → k < total → get_or stops k 0 < rows_of s
  pub once : from + length (ascending s (part stops from total)) ≤ length stops
