-- `sweep::angle::part` meets its contract. Assumes nothing.
use Rattle.sweep.proofs.Signed.{number_read}
use Rattle.sweep.proofs.angle.part.Goals as goal

pub returns : goal.returns
returns c = let g = c.struct_told-3-1.given in
    number_read c.args.a (record { sfits = g.0.1 }) (record { sfits = g.1.0.1 })
