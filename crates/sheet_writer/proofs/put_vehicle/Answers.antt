-- `sheet_writer::put_vehicle` meets its contract: its fields one after another. Assumes nothing.
use mathlib.Core.Path.{◌∙◌}
use native.Mathlib.Omega.{arith}
use mathlib.Core.List.{[], ◌∷◌, append_assoc, append-nil}
use Rattle.sheet_writer.specs.Sheet.{vehicle_record, records_bytes}
use Rattle.wire.proofs.Run.{then, wrote}
use Rattle.sheet_writer.proofs.Run.{wrote_signed, wrote_floats}
use Rattle.sheet_writer.proofs.put_vehicle.Goals as goal

pub returns : goal.returns
unfolding vehicle_record records_bytes
returns c = let a = c.args in
    let room = c.requires.vehicle_size_in_bounds in
    let id = wrote 4 a.vehicle.id c.put_u32.ensures in
    let depot = then id (wrote 4 a.vehicle.depot c.put_u32-2.ensures) (omega arith) (omega arith) in
    let capacity = then depot (wrote_signed a.vehicle.capacity (record { sfits = c.struct_told-1.given.1.1.0.1 }) c.put_i32.ensures) (omega arith) (omega arith) in
    let marks = then capacity (wrote 4 a.vehicle.marks c.put_u32-3.ensures) (omega arith) (omega arith) in
    let v = a.vehicle in
    let floats = v.cost_per_distance ∷ v.fixed_cost ∷ v.max_distance ∷ v.max_duration ∷ v.earliest ∷ v.latest ∷ v.rest_duration ∷ [] in
    (then marks (wrote_floats floats c.put_floats.ensures) (omega arith) (omega arith)).same ∙ simp (append_assoc, append-nil)
