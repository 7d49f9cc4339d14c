-- A plan that `plan_rounds` or `limit_rounds` wrote is never refused for the plan when it is billed. Assumes nothing.
use Rattle.std.specs.Prelude.{◌≡◌, refl, ℕ, ◌+◌, ◌*◌, ◌<◌, true, false, List, length, get_or}
use Rattle.std.proofs.Common.{eq-eqb}
use Rattle.sheet.specs.Refusal.{unless}
use Rattle.plan.specs.Read.{rounds_at}
use Rattle.plan_door.specs.Door.{door_refusal}
use Rattle.tariff.specs.declared.Rates.{Rates}
use Rattle.tariff.specs.Charge.{rates_right}
use Rattle.tariff_bill.specs.Bill.{bill_room, bill_refusal}
use Rattle.planner.specs.Answer.{Answered}
use Rattle.planner.specs.Limited.{LimitAnswered, LimitOnce}
use Rattle.planner.specs.Laws.Opened.{planned_opened, limited_opened}

-- billed into a buffer of the length that it asks for, what is refused of it is a rate
opened_billed : (s plan : List ℕ) (t : Rates) → door_refusal s plan true false ≡ 0 → bill_refusal s plan t (8 * (rounds_at plan + 1)) ≡ unless (rates_right t) 13 0
unfolding bill_refusal bill_room
opened_billed s plan t free = rw (eq-eqb (8 * (rounds_at plan + 1)) (8 * (rounds_at plan + 1)) refl) (rw free refl)

pub planned_billed : (s lent plan : List ℕ) → ((i : ℕ) → get_or s i 0 < 256) → Answered s lent 0 plan → length plan ≡ length lent → (t : Rates) → bill_refusal s plan t (8 * (rounds_at plan + 1)) ≡ unless (rates_right t) 13 0
planned_billed s lent plan small a same t = opened_billed s plan t (planned_opened s lent plan small a same)

pub limited_billed : (s plan lent out : List ℕ) (greatest : ℕ) → LimitAnswered s plan greatest lent 0 out → LimitOnce s 0 out → length out ≡ length lent → (t : Rates) → bill_refusal s out t (8 * (rounds_at out + 1)) ≡ unless (rates_right t) 13 0
limited_billed s plan lent out greatest a once same t = opened_billed s out t (limited_opened s plan lent out greatest a once same)
