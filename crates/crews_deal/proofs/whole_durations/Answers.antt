-- `crews_deal::whole_durations` meets its contract. Assumes nothing.
use Rattle.std.proofs.Common.{arith}
use Rattle.crews_deal.proofs.Rounding.{goes_on}
use Rattle.crews_deal.proofs.whole_durations.Goals as goal

pub loop-k-preserved : goal.loop-k-preserved
loop-k-preserved c = goes_on _ _ _ c.loop-k.invariant _ _ (omega arith) c.begun.ensures
