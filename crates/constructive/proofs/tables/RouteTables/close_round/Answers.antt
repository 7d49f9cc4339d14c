-- `constructive::tables::RouteTables::close_round` meets its contract. Assumes nothing.
use Rattle.wire.specs.Laws.Bytes.{write_byte}
use Rattle.constructive.proofs.tables.RouteTables.close_round.Goals as goal

pub returns-clause-ends_after : goal.returns-clause-ends_after
returns-clause-ends_after c = let p = c.requires.rounds_in_bounds in (write_byte _ _ _ p.0, write_byte _ _ _ p.1)
