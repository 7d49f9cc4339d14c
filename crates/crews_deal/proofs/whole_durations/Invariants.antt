-- `crews_deal::whole_durations` meets its contract. Assumes nothing.
use Rattle.crews_deal.proofs.Rounding.{Rounding}
use Rattle.crews_deal.proofs.whole_durations.Given as goal

abbrev pub invariant-loop-k : goal.invariant-loop-k
invariant-loop-k l = Rounding l.figures l.wholes l.k
