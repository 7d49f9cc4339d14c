-- docs/SCOPE.md#the-limiter. A round that the limiter leaves.
use Rattle.std.specs.Prelude.{◌≡◌, ℕ, ◌<◌, List, length}
use Rattle.constructive.specs.Outcome.{Round, round_at}
use Rattle.constructive.specs.Rounds.{Feasible}

-- ---- the limiter
-- a round as it stood before, or one that took a stop
pub data Stood (s : List ℕ) (before : List Round) (r : Round) : Type 0 where
  untouched : (i : ℕ) → i < length before → r ≡ round_at before i → Stood s before r
  refitted : Feasible s 0 r → Stood s before r
