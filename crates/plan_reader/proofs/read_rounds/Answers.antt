-- `plan_reader::read_rounds` meets its contract. Assumes nothing.
use Rattle.plan_reader.proofs.Rounding.{begins}
use Rattle.std.proofs.Common.{rules}
use Rattle.plan_reader.proofs.read_rounds.Goals as goal

pub loop-k-init : goal.loop-k-init
loop-k-init c = let a = c.args in record { as_long = search rules; lent = search rules; read = begins a.sheet.now a.plan.now a.tables.now.stops.now a.tables.now.ends.now a.tables.now.vehicles.now }
