-- `plan_reader::read_rounds` meets its contract. Assumes nothing.
use Rattle.constructive.specs.Lent.{Lent}
use Rattle.constructive.specs.Tables.{AsLong}
use Rattle.plan_reader.specs.Chains.{RoundsRead}
use Rattle.plan_reader.proofs.read_rounds.Given as goal

abbrev pub invariant-loop-k : goal.invariant-loop-k
invariant-loop-k l = record {
  as_long : AsLong l.initial.tables.stops.now l.initial.tables.ends.now l.initial.tables.vehicles.now l.tables.stops.now l.tables.ends.now l.tables.vehicles.now;
  lent : Lent l.initial.tables l.tables;
  read : RoundsRead l.sheet l.plan l.tables.stops.now l.tables.ends.now l.tables.vehicles.now l.k l.at;
}
