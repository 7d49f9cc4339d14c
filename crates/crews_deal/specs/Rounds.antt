-- docs/SCOPE.md#rounds-dealt-to-crews. Request Seven: a plan's rounds dealt to crews. "Durations, walked anew, count in whole units, rounded up; the deal is one byte a round, crews
-- from 1."
use Rattle.std.specs.Prelude.{◌≡◌, ℕ, Bool, false, List, [], ◌∷◌, eqb, length}
use Rattle.sheet.specs.Refusal.{unless}
use Rattle.constructive.specs.Outcome.{Round}
use Rattle.plan.specs.Stated.{built_record}
use Rattle.plan.specs.Read.{rounds_at, read_plan}
use Rattle.plan_door.specs.Door.{or_else, door_refusal, unless_refused}
use Rattle.tariff.specs.Units.{begun_of}
use Rattle.crews.specs.Deal.{dealt, crews_right}
use Rattle.crews.specs.Fair.{Shared, Even, LargestBounded}

-- ---- the durations
-- a round's, walked anew: the least whole number that is not below it
abbrev pub whole_duration : List ℕ → Round → ℕ
whole_duration s r = begun_of 1 (built_record s r).duration

-- every round's, in order
unfoldable pub whole_durations : List ℕ → List Round → List ℕ
whole_durations s [] = []
whole_durations s (r ∷ rs) = whole_duration s r ∷ whole_durations s rs

-- those of a plan
unfoldable pub plan_durations : List ℕ → List ℕ → List ℕ
plan_durations s plan = whole_durations s (read_plan s plan).rounds

-- ---- the deal
unfoldable pub deal_of : List ℕ → List ℕ → ℕ → List ℕ
deal_of s plan w = dealt w (plan_durations s plan)

-- ---- the refusals
-- 4: "a deal of another length is a 4"; its length goes by the plan's own count of rounds
unfoldable pub deal_room : List ℕ → ℕ → Bool
deal_room plan m = eqb m (rounds_at plan)

-- "several depots are no 9; 14 for a crew count of 0 or above 8, last"
unfoldable pub deal_refusal : List ℕ → List ℕ → ℕ → ℕ → ℕ
deal_refusal s plan w m = or_else (door_refusal s plan (deal_room plan m) false) (unless (crews_right w) 14 0)

-- ---- the contract: a sheet, a plan, the crews, the bytes lent, the number and the bytes after it
-- **answer**: number and bytes are the definition's; "A refused call writes no lent byte."
pub record DealAnswered (s plan : List ℕ) (w : ℕ) (lent : List ℕ) (r : ℕ) (out : List ℕ) : Type 0 where
  pub number : r ≡ deal_refusal s plan w (length lent)
  pub bytes : out ≡ unless_refused (deal_refusal s plan w (length lent)) (deal_of s plan w) lent

-- **shared**, **even**, **bounded**: of the bytes of a deal that is not refused, and the plan's durations
abbrev pub DealShared : List ℕ → List ℕ → ℕ → ℕ → List ℕ → Type 0
DealShared s plan w r out = r ≡ 0 → Shared w (plan_durations s plan) out

abbrev pub DealEven : List ℕ → List ℕ → ℕ → ℕ → List ℕ → Type 0
DealEven s plan w r out = r ≡ 0 → Even w (plan_durations s plan) out

abbrev pub DealBounded : List ℕ → List ℕ → ℕ → ℕ → List ℕ → Type 0
DealBounded s plan w r out = r ≡ 0 → LargestBounded w (plan_durations s plan) out
