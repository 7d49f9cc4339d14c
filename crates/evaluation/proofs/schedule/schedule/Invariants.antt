-- `evaluation::schedule::schedule` meets its contract. Assumes nothing.
use Rattle.evaluation.proofs.Onward.{position_at, Going}
use Rattle.evaluation.proofs.schedule.schedule.Given as goal

abbrev pub invariant-loop-stop : goal.invariant-loop-stop
invariant-loop-stop l = Going l.sheet l.route l.depot (position_at l.initial.clock l.initial.distance) l.clock l.distance l.stop-index
