-- `crews_deal::deal_room` meets its contract. Assumes nothing.
use Rattle.plan.specs.Read.{rounds_at}
use Rattle.crews_deal.specs.Rounds.{deal_room}
use Rattle.crews_deal.proofs.deal_room.Goals as goal

pub returns : goal.returns
unfolding deal_room rounds_at
returns c = λ h. rw c.u16_at.ensures
