-- docs/SCOPE.md#the-limiter. The limiter's refusals and its plan out; what its making answers.
use Rattle.std.specs.Prelude.{◌≡◌, ℕ, true, List, length}
use Rattle.sheet.specs.Refusal.{lengths_right}
use Rattle.plan.specs.Plan.{plan_of}
use Rattle.plan.specs.Read.{read_plan}
use Rattle.plan_reasons.specs.Reasons.{with_reasons}
use Rattle.plan_reasons.specs.Copying.{copied_reason}
use Rattle.plan_door.specs.Door.{door_refusal, unless_refused}
use Rattle.fleet.specs.Limit.{limit_routes}

-- its further buffer is the plan out, of `room` bytes: 4 for "sheet or a plan buffer not of its exact length"; 9: "limiter with several depots"
unfoldable pub limit_refusal : List ℕ → List ℕ → ℕ → ℕ
limit_refusal s plan room = door_refusal s plan (lengths_right s room) true

-- the plan out, its figures by `build_route` and its cost by `price`; always priced. "The limiter gives 8 to every stop it drops and copies the reason of earlier ones"
unfoldable pub limited_plan : List ℕ → List ℕ → ℕ → List ℕ
limited_plan s plan greatest =
    let o = limit_routes s greatest (read_plan s plan) in
    with_reasons s (copied_reason s plan (read_plan s plan).aside) o.aside (plan_of s o true)

-- a refusal, or the plan out
pub record LimitDone (s plan : List ℕ) (greatest : ℕ) (lent : List ℕ) (r : ℕ) (out : List ℕ) : Type 0 where
  pub number : r ≡ limit_refusal s plan (length lent)
  pub bytes : out ≡ unless_refused (limit_refusal s plan (length lent)) (limited_plan s plan greatest) lent
