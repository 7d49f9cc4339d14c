-- `sheet::Sheet::distance` meets its contract. Assumes nothing.
use Rattle.sheet.specs.Values.{distance_of}
use Rattle.sheet.proofs.Cells.{first_entry}
use Rattle.sheet.proofs.Sheet.distance.Goals as goal

pub f64_at-requires-clause-t : goal.f64_at-requires-clause-t
f64_at-requires-clause-t c = let i = c.self.invariant in rw i.distances (first_entry _ i.accepted _ _ i.rows c.cell.ensures.1).number

pub returns : goal.returns
unfolding distance_of
returns c = rw (← c.self.view_is, c.f64_at.ensures, c.self.invariant.distances, c.cell.ensures.0, c.self.invariant.rows)
