-- docs/SCOPE.md#the-limiter. What the limiter answers with, and what holds of every plan out. Document 01: "The limiter takes a sheet, a plan in, a greatest number of rounds (u32) and a plan out."
use Rattle.std.specs.Prelude.{◌≡◌, ℕ, zero, suc, ◌≤◌, ◌<◌, List, length}
use Rattle.lists.specs.Count.{count}
use Rattle.lists.specs.Every.{Every}
use Rattle.lists.specs.Ascending.{Ascending}
use Rattle.plan.specs.Read.{read_plan}
use Rattle.fleet.specs.Stood.{Stood}
use Rattle.planner_limiting.specs.Limiting.{limit_refusal, limited_plan}
use Rattle.planner.specs.Answer.{Answer, refused, planned, answer_number, bytes_of, Standing}

-- ---- the answer
abbrev pub limit_told : ℕ → List ℕ → List ℕ → ℕ → Answer
limit_told zero s plan greatest = planned (limited_plan s plan greatest)
limit_told (suc n) s plan greatest = refused (suc n)

-- the answer to a sheet and a plan in, with a plan out of `room` bytes
unfoldable pub limit_answer : List ℕ → List ℕ → ℕ → ℕ → Answer
limit_answer s plan greatest room = limit_told (limit_refusal s plan room) s plan greatest

-- ---- the parts of the contract: a sheet, a plan in, the greatest number, the bytes lent, the number and the bytes after it
-- **answer**: number and bytes are the definition's; "A refused call writes no lent byte."
pub record LimitAnswered (s plan : List ℕ) (greatest : ℕ) (lent : List ℕ) (r : ℕ) (out : List ℕ) : Type 0 where
  pub number : r ≡ answer_number (limit_answer s plan greatest (length lent))
  pub bytes : out ≡ bytes_of (limit_answer s plan greatest (length lent)) lent

-- **once**: "That every pond stands once in the plan out too is proved."
abbrev pub LimitOnce : List ℕ → ℕ → List ℕ → Type 0
LimitOnce s r out = r ≡ 0 → Standing s out

-- **few**: at most the greatest number of rounds
abbrev pub LimitFew : List ℕ → ℕ → ℕ → List ℕ → Type 0
LimitFew s greatest r out = r ≡ 0 → length (read_plan s out).rounds ≤ greatest

-- **stood**: each round is one of the plan in, as it stood there, or it keeps capacity and `route_feasible` passes it
abbrev pub LimitStood : List ℕ → List ℕ → ℕ → List ℕ → Type 0
LimitStood s plan r out = r ≡ 0 → Every (Stood s (read_plan s plan).rounds) (read_plan s out).rounds

-- **aside**: "Stops set aside before stay so; the chain comes out ascending."
pub record LeftAside (s plan out : List ℕ) : Type 0 where
  pub stay : (i : ℕ) → 0 < count i (read_plan s plan).aside → count i (read_plan s out).aside ≡ 1
  pub ascending : Ascending (read_plan s out).aside

abbrev pub LimitAside : List ℕ → List ℕ → ℕ → List ℕ → Type 0
LimitAside s plan r out = r ≡ 0 → LeftAside s plan out
