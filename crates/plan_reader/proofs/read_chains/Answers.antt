-- `plan_reader::read_chains` meets its contract. Assumes nothing.
use native.Mathlib.Omega.{arith}
use Rattle.plan.specs.Read.{rounds_at, aside_at}
use Rattle.plan_reader.proofs.Outcome.{too_many, chained}
use Rattle.plan_reader.proofs.read_chains.Goals as goal

pub returns-then-rows-rounds-clause-chains_as : goal.returns-then-rows-rounds-clause-chains_as
unfolding rounds_at
returns-then-rows-rounds-clause-chains_as c = too_many c.args.sheet.now c.args.plan.now (omega (arith, c.u16_at-rounds.ensures))

pub read_rounds-requires : goal.read_rounds-requires
unfolding rounds_at
read_rounds-requires c = let e = c.u16_at-rounds.ensures in record { reader_tables = c.requires; rounds_value = (e, omega (arith, e)) }

pub returns-clause-chains_as : goal.returns-clause-chains_as
unfolding rounds_at aside_at
returns-clause-chains_as c = let w = c.read_rounds in
    let f = c.follow in
    let read = rw c.in_ok-start.was at w.ensures.rounds_as in
    chained read (omega (arith, c.u16_at-rounds.ensures, c.rows.ensures.value, c.if-rows-rounds.false)) (omega (arith, c.requires.rows, w.ensures.as_long.stopped)) f.new.stops f.result f.auto.stops (rw c.u16_at-aside.ensures at f.ensures)
