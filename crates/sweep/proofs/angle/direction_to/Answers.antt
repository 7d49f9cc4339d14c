-- `sweep::angle::direction_to` meets its contract. Assumes nothing.
use Rattle.sheet.specs.Fields.{row_at, x_field, y_field}
use Rattle.sweep.specs.Angle.{direction_of}
use Rattle.sweep.proofs.Signed.{offset_read}
use Rattle.sweep.proofs.angle.direction_to.Goals as goal

pub returns : goal.returns
unfolding direction_of
returns c = let a = c.args in
    let s = a.sheet.now in
    let e = offset_read c.offset.result c.x-2.result c.x.result (x_field s (row_at a.row)) (x_field s (row_at a.depot))
    (record { sfits = c.offset.type_inv }) (record { sfits = c.x-2.type_inv }) (record { sfits = c.x.type_inv }) c.offset.ensures c.x-2.ensures c.x.ensures in
    let f = offset_read c.offset-2.result c.y-2.result c.y.result (y_field s (row_at a.row)) (y_field s (row_at a.depot))
    (record { sfits = c.offset-2.type_inv }) (record { sfits = c.y-2.type_inv }) (record { sfits = c.y.type_inv }) c.offset-2.ensures c.y-2.ensures c.y.ensures in
    λ i. record { dx = e i; dy = f i }
