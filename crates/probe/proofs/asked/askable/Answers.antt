-- `probe::asked::askable` meets its contract. Assumes nothing.
use borrow.Author.Tests.{le-ltb, lt-ltb}
use Rattle.probe.specs.Promises.{askable}
use Rattle.probe.proofs.Right.{accepted_of_lem, passed}
use Rattle.probe.proofs.asked.askable.Goals as goal

pub returns-then-not-accepted : goal.returns-then-not-accepted
unfolding askable
returns-then-not-accepted c = rw (← c.accepted.ensures, c.if-not-accepted.true)

pub returns-then-vehicles-vehicle : goal.returns-then-vehicles-vehicle
unfolding askable
returns-then-vehicles-vehicle c = rw (← c.accepted.ensures, c.if-not-accepted.false, ← c.new-sheet.ensures, ← c.vehicles.ensures.value, le-ltb c.args.vehicle c.vehicles.result c.if-vehicles-vehicle.true)

pub new-sheet-requires : goal.new-sheet-requires
new-sheet-requires c = accepted_of_lem c.args.sheet.now (passed c.accepted.ensures (c.if-not-accepted.false))

pub returns : goal.returns
unfolding askable
returns c = rw (← c.accepted.ensures, c.if-not-accepted.false, ← c.new-sheet.ensures, ← c.vehicles.ensures.value, lt-ltb c.args.vehicle c.vehicles.result c.if-vehicles-vehicle.false, ← c.vehicle_at.ensures.value, ← c.rows.ensures.value)
