-- `sheet::Sheet::stop_at` meets its contract. Assumes nothing.
use mir.ValLaws.{to_z-of_z}
use mir.Syntax.{w32}
use Rattle.sheet.specs.Laws.Finite.{row_numbers}
use Rattle.sheet.specs.Values.{stop_of}
use Rattle.sheet.proofs.Sheet.stop_at.Goals as goal

pub gate_at-gate-requires-clause-row_numbers : goal.gate_at-gate-requires-clause-row_numbers
gate_at-gate-requires-clause-row_numbers c = rw c.row_place-at.ensures (row_numbers _ c.self.invariant.accepted c.args.row (rw c.self.view_is c.requires))

pub f64_at-requires-clause-t : goal.f64_at-requires-clause-t
f64_at-requires-clause-t c = rw c.row_place-at.ensures (row_numbers _ c.self.invariant.accepted c.args.row (rw c.self.view_is c.requires)).service

pub returns : goal.returns
unfolding stop_of
returns c = rw (to_z-of_z w32 c.x.result (record { sfits = c.x.type_inv }), to_z-of_z w32 c.y.result (record { sfits = c.y.type_inv }), c.demand.ensures, c.y.ensures, c.x.ensures, ← c.self.view_is, c.f64_at.ensures, c.gate_at-gate.ensures, c.row_place-at.ensures)
