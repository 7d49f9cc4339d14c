-- `constructive::members::gather` meets its contract. Assumes nothing.
use Rattle.std.proofs.Common.{◌-◌}
use Rattle.constructive.proofs.Gathering.{Gathering}
use Rattle.constructive.proofs.members.gather.Given as goal

abbrev pub invariant-loop-number : goal.invariant-loop-number
invariant-loop-number g l = Gathering g.test (l.stop - l.start) l.start l.initial.table l.from l.table l.end l.number
