-- `sheet::Sheet::travel_time` meets its contract. Assumes nothing.
use Rattle.sheet.specs.Values.{time_of}
use Rattle.sheet.proofs.Cells.{time_entry, entry_after}
use Rattle.sheet.proofs.Sheet.travel_time.Goals as goal

pub f64_at-requires-clause-t : goal.f64_at-requires-clause-t
f64_at-requires-clause-t c = let i = c.self.invariant in rw (i.times, entry_after c.self.inside.bytes.now _ c.cell.result) (time_entry _ i.accepted _ _ i.rows c.cell.ensures.1).number

pub returns : goal.returns
unfolding time_of
returns c = let i = c.self.invariant in rw (← c.self.view_is, c.f64_at.ensures, i.times, entry_after c.self.inside.bytes.now _ c.cell.result, c.cell.ensures.0, i.rows)
