-- A plan that `plan_rounds` or `limit_rounds` wrote is never refused for the plan when its rounds are dealt. Assumes nothing.
use Rattle.std.specs.Prelude.{◌≡◌, refl, ℕ, ◌<◌, true, false, List, length, get_or}
use Rattle.std.proofs.Common.{eq-eqb}
use Rattle.sheet.specs.Refusal.{unless}
use Rattle.plan.specs.Read.{rounds_at}
use Rattle.plan_door.specs.Door.{door_refusal}
use Rattle.crews.specs.Deal.{crews_right}
use Rattle.crews_deal.specs.Rounds.{deal_room, deal_refusal}
use Rattle.planner.specs.Answer.{Answered}
use Rattle.planner.specs.Limited.{LimitAnswered, LimitOnce}
use Rattle.planner.specs.Laws.Opened.{planned_opened, limited_opened}

-- dealt into a byte for each round, what is refused of it is the number of crews
opened_dealt : (s plan : List ℕ) (w : ℕ) → door_refusal s plan true false ≡ 0 → deal_refusal s plan w (rounds_at plan) ≡ unless (crews_right w) 14 0
unfolding deal_refusal deal_room
opened_dealt s plan w free = rw (eq-eqb (rounds_at plan) (rounds_at plan) refl) (rw free refl)

pub planned_dealt : (s lent plan : List ℕ) → ((i : ℕ) → get_or s i 0 < 256) → Answered s lent 0 plan → length plan ≡ length lent → (w : ℕ) → deal_refusal s plan w (rounds_at plan) ≡ unless (crews_right w) 14 0
planned_dealt s lent plan small a same w = opened_dealt s plan w (planned_opened s lent plan small a same)

pub limited_dealt : (s plan lent out : List ℕ) (greatest : ℕ) → LimitAnswered s plan greatest lent 0 out → LimitOnce s 0 out → length out ≡ length lent → (w : ℕ) → deal_refusal s out w (rounds_at out) ≡ unless (crews_right w) 14 0
limited_dealt s plan lent out greatest a once same w = opened_dealt s out w (limited_opened s plan lent out greatest a once same)
