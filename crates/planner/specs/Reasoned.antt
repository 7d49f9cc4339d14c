-- docs/SCOPE.md#why-a-stop-is-set-aside. Request Six: "The zero u16 in the row record becomes a reason for each set-aside stop, and stays zero on others." What the reasons of a plan say, read from the bytes of sheet and plans alone.
use Rattle.std.specs.Prelude.{◌≡◌, ℕ, ◌≤◌, ◌<◌, ◌↔◌, false, List, ◌∷◌, T}
use Rattle.lists.specs.Count.{count}
use Rattle.lists.specs.Every.{Every}
use Rattle.sheet.specs.Fields.{rows_of, vehicles_of}
use Rattle.sheet.specs.Fleet.{fleet_of}
use Rattle.lawful.specs.Whole.{Whole}
use Rattle.lawful.specs.Lawful.{alone}
use Rattle.plan.specs.Read.{read_plan}
use Rattle.reason.specs.Reason.{last_tried, is_nearest, reason_of}
use Rattle.plan_reasons.specs.Reasons.{reason_at}

-- the reason of a row, as the plan says it
abbrev pub reason_in : List ℕ → List ℕ → ℕ → ℕ
reason_in s plan i = reason_at plan (rows_of s) i

-- a stop set aside by `plan_rounds`
pub record ReasonGiven (s plan : List ℕ) (i : ℕ) : Type 0 where
  pub given : reason_in s plan i ≡ reason_of s i
  pub some : 1 ≤ reason_in s plan i
  pub most : reason_in s plan i ≤ 7
  -- "1 no depot has a vehicle"
  pub unmanned : (reason_in s plan i ≡ 1) ↔ (vehicles_of s ≡ 0)
  -- 7 is said by the nearest neighbours alone
  pub used_up : reason_in s plan i ≡ 7 → T (is_nearest s)
  -- every other means that no lone round exists: by the first vehicle of the depot tried last
  pub first : Whole s → (reason_in s plan i ≡ 7 → ⊥) → (v : ℕ) (vs : List ℕ) → fleet_of s (last_tried s i) ≡ v ∷ vs → alone s v i ≡ false
  -- and where a nearest neighbour planned, by any of that depot
  pub any : Whole s → (reason_in s plan i ≡ 7 → ⊥) → T (is_nearest s) → Every (λ (v : ℕ). alone s v i ≡ false) (fleet_of s (last_tried s i))

-- the row record of a stop on a round, and of a depot: "stays zero on others"
abbrev pub OthersZero : List ℕ → List ℕ → Type 0
OthersZero s plan = (i : ℕ) → i < rows_of s → count i (read_plan s plan).aside ≡ 0 → reason_in s plan i ≡ 0

pub record ReasonsGiven (s plan : List ℕ) : Type 0 where
  pub each : Every (ReasonGiven s plan) (read_plan s plan).aside
  pub others : OthersZero s plan

-- **reasoned**
abbrev pub Reasoned : List ℕ → ℕ → List ℕ → Type 0
Reasoned s r plan = r ≡ 0 → ReasonsGiven s plan

-- ---- "The limiter gives 8 to every stop it drops and copies the reason of earlier ones"
pub record ReasonsCopied (s plan out : List ℕ) : Type 0 where
  pub earlier : (i : ℕ) → 0 < count i (read_plan s plan).aside → reason_in s out i ≡ reason_in s plan i
  pub dropped : (i : ℕ) → 0 < count i (read_plan s out).aside → count i (read_plan s plan).aside ≡ 0 → reason_in s out i ≡ 8
  pub most : Every (λ (i : ℕ). reason_in s out i ≤ 8) (read_plan s out).aside
  pub others : OthersZero s out

abbrev pub LimitReasoned : List ℕ → List ℕ → ℕ → List ℕ → Type 0
LimitReasoned s plan r out = r ≡ 0 → ReasonsCopied s plan out
