-- `sheet_writer::put_row` meets its contract: its fields one after another. Assumes nothing.
use mathlib.Core.Path.{◌∙◌}
use mathlib.Core.List.{[], ◌∷◌, append_assoc, append-nil}
use Rattle.sheet_writer.specs.Sheet.{row_record, records_bytes}
use native.Mathlib.Omega.{arith}
use Rattle.wire.proofs.Run.{then, wrote}
use Rattle.sheet_writer.proofs.Run.{wrote_signed, wrote_floats}
use Rattle.sheet_writer.proofs.put_row.Goals as goal

pub returns : goal.returns
unfolding row_record records_bytes
returns c = let a = c.args in
    let room = c.requires.row_size_in_bounds in
    let x = wrote_signed a.row.x (record { sfits = c.struct_told-1.given.0.1 }) c.put_i32.ensures in
    let y = then x (wrote_signed a.row.y (record { sfits = c.struct_told-2-1.given.1.0.1 }) c.put_i32-2.ensures) (omega arith) (omega arith) in
    let demand = then y (wrote_signed a.row.demand (record { sfits = c.struct_told-3-1.given.1.1.0.1 }) c.put_i32-3.ensures) (omega arith) (omega arith) in
    let marks = then demand (wrote 4 a.row.marks c.put_u32.ensures) (omega arith) (omega arith) in
    (then marks (wrote_floats (a.row.service ∷ a.row.ready ∷ a.row.due ∷ a.row.penalty ∷ []) c.put_floats.ensures) (omega arith) (omega arith)).same ∙ simp (append_assoc, append-nil)
