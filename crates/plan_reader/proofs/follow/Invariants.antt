-- `plan_reader::follow` meets its contract. Assumes nothing.
use Prim.Native.Nat.{◌-◌}
use Rattle.plan_reader.specs.Reading.{stop_count}
use Rattle.plan_reader.proofs.Following.{Following}
use Rattle.plan_reader.proofs.follow.Given as goal

abbrev pub invariant-loop-link : goal.invariant-loop-link
invariant-loop-link l = Following l.sheet l.plan l.first l.initial.stops l.from l.stops l.link l.at

abbrev pub decreases-loop-link : goal.decreases-loop-link
decreases-loop-link l = stop_count l.sheet - l.at
