-- What the functions ask, and what they leave in the tables that are lent.
use Rattle.std.specs.Prelude.{◌≡◌, ℕ, ◌+◌, ◌≤◌, ◌<◌, ◌||◌, List, ◌++◌, eqb, length, get_or}
use Rattle.lists.specs.Count.{count}
use Rattle.sheet.specs.Fields.{rows_of}
use Rattle.sheet.specs.Depots.{depots_of}
use Rattle.sheet.specs.Accepted.{Accepted}
use Rattle.sheet.specs.Fleet.{fleet_of}
use Rattle.sheet.specs.Stops.{stops_with}
use Rattle.constructive.specs.Outcome.{Round, Outcome}
use Rattle.constructive.specs.Members.{part, Members, members_of}
use Rattle.constructive.specs.Stored.{Room}
use Rattle.constructive.specs.TableContents.{HoldsRounds}
use Rattle.constructive.specs.declared.tables.Filled.{Filled}
use Rattle.constructive.specs.Marks.{Marks, marked_by}
use Rattle.multi_depot_offers.specs.ByDepot.{is_no_depot, construct_of}

-- ---- marks: 1 for a row that is turned down, else 0
-- no row of a depot is marked any more
pub record Cleared (at marks : List ℕ) (depot : ℕ) (marks' : List ℕ) : Type 0 where
  pub gone : (c : ℕ) → c < length at → get_or at c 0 ≡ depot → get_or marks' c 0 ≡ 0
  pub kept : (c : ℕ) → (get_or at c 0 ≡ depot → ⊥) → get_or marks' c 0 ≡ get_or marks c 0

-- no row has left a depot or come to it
abbrev pub Alike : List ℕ → List ℕ → ℕ → Type 0
Alike before at depot = (c : ℕ) → c < length at → eqb (get_or before c 0) depot ≡ eqb (get_or at c 0) depot

-- the stops set aside, by the marks
unfoldable pub aside_by_marks : List ℕ → List ℕ → List ℕ → List ℕ
aside_by_marks s at marks = stops_with s (λ c. is_no_depot s (get_or at c 0) || eqb (get_or marks c 0) 1)

-- ---- the tables
-- (a clause: the tables may be shorter than a sheet has rows at most, if they do for this sheet)
pub record PlanningTables (s at stops ends vehicles : List ℕ) : Type 0 where
  pub sheet : Accepted s
  pub rows : length at ≡ rows_of s
  pub stopped : rows_of s ≤ length stops
  pub ended : rows_of s ≤ length ends
  pub driven : rows_of s ≤ length vehicles

-- a depot's members in their table, each once, and room for their rounds behind what is filled
pub record Ready (s : List ℕ) (depot : ℕ) (stops ends vehicles : List ℕ) (f : Filled) (total : ℕ) : Type 0 where
  pub members : Members s depot stops f.routed total
  pub once : (x : ℕ) → count x (part stops f.routed total) ≤ 1
  pub room : Room ends vehicles f total

-- a depot, and room for its members behind what is filled
pub record Next (s at : List ℕ) (depot : ℕ) (f : Filled) : Type 0 where
  pub home : depot < depots_of s
  pub rounds : f.rounds ≤ f.routed
  pub room : f.routed + length (members_of s at depot) ≤ rows_of s

-- what is made of them, with the depot's vehicles
abbrev pub construct_at : List ℕ → ℕ → List ℕ → Outcome
construct_at s d members = construct_of s d members (fleet_of s d)

-- a depot's outcome behind the rounds that the tables held, its stops set aside marked
pub record Added (marks stops ends vehicles : List ℕ) (f : Filled) (o : Outcome) (marks' stops' ends' vehicles' : List ℕ) (done : Filled) : Type 0 where
  pub holds : (rounds : List Round) → HoldsRounds stops ends vehicles f rounds → HoldsRounds stops' ends' vehicles' done (rounds ++ o.rounds)
  pub turned : marks' ≡ marked_by marks o.aside

-- the outcome of depots, whose stops set aside are marked
pub record Planned (s marks stops ends vehicles : List ℕ) (f : Filled) (o : Outcome) : Type 0 where
  pub holds : HoldsRounds stops ends vehicles f o.rounds
  pub turned : Marks s marks o.aside
