-- docs/SCOPE.md#the-three-demands. What the planner answers a sheet with, and what holds of every plan: demands 1 to 3, read from the bytes of sheet and plan alone.
use Rattle.std.specs.Prelude.{◌≡◌, ℕ, zero, suc, ◌≤◌, ◌<◌, Bool, false, not, ◌&&◌, ◌||◌, List, T, leb, eqb, length, get_or}
use Rattle.lists.specs.Count.{count}
use Rattle.lists.specs.Every.{Every}
use Rattle.sheet.specs.Fields.{rows_of, method_of}
use Rattle.sheet.specs.Depots.{depots_of}
use Rattle.sheet.specs.Refusal.{refusal_of}
use Rattle.sheet.specs.Fleet.{fleet_of}
use Rattle.lawful.specs.Whole.{Whole}
use Rattle.lawful.specs.Lawful.{home_of, lawful, keeps_capacity, alone, fits, some_seed_first}
use Rattle.constructive.specs.Outcome.{Round, Outcome, stops_of, round_at}
use Rattle.constructive.specs.Rounds.{passes}
use Rattle.multi_depot_offers.specs.ByDepot.{outcome_of}
use Rattle.plan.specs.Plan.{plan_of}
use Rattle.plan.specs.Read.{read_plan}
use Rattle.reason.specs.Reason.{reason_of}
use Rattle.plan_reasons.specs.Reasons.{with_reasons}
use Rattle.plan_door.specs.Door.{plan_taken}

-- ---- the answer
-- with one depot and no stop the Rust returns before it prices
unfoldable pub priced : List ℕ → Bool
priced s = not (eqb (depots_of s) 1 && leb (rows_of s) 1)

-- the plan of an accepted sheet, with the reason of each stop set aside
unfoldable pub plan_for : List ℕ → List ℕ
plan_for s = with_reasons s (reason_of s) (outcome_of s).aside (plan_of s (outcome_of s) (priced s))

-- a sheet, of any bytes and length, is refused or planned: "The number is the whole answer."
pub data Answer : Type 0 where
  refused : ℕ → Answer
  planned : List ℕ → Answer

abbrev pub told_by : ℕ → List ℕ → Answer
told_by zero s = planned (plan_for s)
told_by (suc n) s = refused (suc n)

-- the answer to a sheet with a plan buffer of `room` bytes
unfoldable pub answer_of : List ℕ → ℕ → Answer
answer_of s room = told_by (refusal_of s room) s

-- its number
abbrev pub answer_number : Answer → ℕ
answer_number (refused n) = n
answer_number (planned bytes) = 0

-- the bytes lent for the plan, after it: "A refused call writes no lent byte."
abbrev pub bytes_of : Answer → List ℕ → List ℕ
bytes_of (refused n) lent = lent
bytes_of (planned bytes) lent = bytes

-- ---- the parts of the contract: a sheet, the bytes lent, the number and the bytes after it
-- **answer**, demands 1 and 2: number and bytes are the definition's, refused sheets included
pub record Answered (s lent : List ℕ) (r : ℕ) (plan : List ℕ) : Type 0 where
  pub number : r ≡ answer_number (answer_of s (length lent))
  pub bytes : plan ≡ bytes_of (answer_of s (length lent)) lent

-- **once**, demand 3: every stop of an accepted sheet stands once in its plan, on one round or set aside
pub record Standing (s plan : List ℕ) : Type 0 where
  pub each : (i : ℕ) → depots_of s ≤ i → i < rows_of s → count i (stops_of (read_plan s plan)) ≡ 1
  -- nothing else does: every id is a vehicle's, every link a stop's, and refusal 10 is not told of it
  pub right : T (plan_taken s plan)

abbrev pub Once : List ℕ → ℕ → List ℕ → Type 0
Once s r plan = r ≡ 0 → Standing s plan

-- a round keeps capacity, save a lone stop that savings made a round of
abbrev pub capacity_kept : List ℕ → Round → Bool
capacity_kept s r = keeps_capacity s r.vehicle r.stops || (eqb (method_of s) 0 && eqb (length r.stops) 1)

-- a round has stops, since "First stop zero is an empty round, which only the limiter reads or writes."; and `route_feasible` passes it from its vehicle's depot, unless plain nearest neighbour made it, which "ignores windows and waiting"
pub record FeasibleRound (s : List ℕ) (r : Round) : Type 0 where
  pub some : 0 < length r.stops
  pub capacity : T (capacity_kept s r)
  pub feasible : (method_of s ≡ 2 → ⊥) → T (passes s (home_of s r.vehicle) r.vehicle r.stops)

-- **feasible**: so on every accepted sheet, soft windows and fractions included, where **lawful** asks for whole numbers
abbrev pub Feasibly : List ℕ → ℕ → List ℕ → Type 0
Feasibly s r plan = r ≡ 0 → Every (FeasibleRound s) (read_plan s plan).rounds

pub record LawfulRound (s : List ℕ) (r : Round) : Type 0 where
  pub schedule : T (lawful s r.vehicle r.stops)
  pub capacity : T (capacity_kept s r)

-- **lawful**, demand 3: every round, whichever constructor but plain nearest neighbour made it, has a lawful schedule and keeps capacity
abbrev pub Lawful : List ℕ → ℕ → List ℕ → Type 0
Lawful s r plan = r ≡ 0 → Whole s → (method_of s ≡ 2 → ⊥) → Every (LawfulRound s) (read_plan s plan).rounds

-- ---- insertion with one depot
-- "the depot's first vehicle"
abbrev pub first_vehicle : List ℕ → ℕ
first_vehicle s = get_or (fleet_of s 0) 0 0

-- **alone**, demand 3: with one depot, insertion sets aside no stop that could make a round alone
abbrev pub Alone : List ℕ → ℕ → List ℕ → Type 0
Alone s r plan = r ≡ 0 → Whole s → method_of s ≡ 1 → depots_of s ≡ 1 → Every (λ (i : ℕ). alone s (first_vehicle s) i ≡ false) (read_plan s plan).aside

-- stop i is later than round n, counted from 0, "if it stands on one counted higher, or is set aside and the seed's rule would take some stop of that round before it"
pub data Later (s : List ℕ) (o : Outcome) (n i : ℕ) : Type 0 where
  higher : (m : ℕ) → n < m → m < length o.rounds → 0 < count i (round_at o.rounds m).stops → Later s o n i
  set_aside : 0 < count i o.aside → T (some_seed_first s 0 (round_at o.rounds n).stops i) → Later s o n i

-- it fits at no place of a round, "from before its first stop to after its last"
abbrev pub FitsNowhere : List ℕ → ℕ → Round → Type 0
FitsNowhere s i r = (k : ℕ) → k ≤ length r.stops → fits s r.vehicle k i r.stops ≡ false

-- each round of an outcome, to every stop later than it
abbrev pub ClosedRounds : List ℕ → Outcome → Type 0
ClosedRounds s o = (n i : ℕ) → n < length o.rounds → Later s o n i → FitsNowhere s i (round_at o.rounds n)

-- **closed**, demand 3: for every round that it closes, no stop placed or set aside later fits at any place in it
abbrev pub Closed : List ℕ → ℕ → List ℕ → Type 0
Closed s r plan = r ≡ 0 → Whole s → method_of s ≡ 1 → depots_of s ≡ 1 → ClosedRounds s (read_plan s plan)
