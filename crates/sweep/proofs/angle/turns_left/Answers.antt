-- `sweep::angle::turns_left` meets its contract. Assumes nothing.
use lib.Signed.{lt_z}
use Rattle.sweep.specs.Angle.{turns_left}
use Rattle.sweep.proofs.Signed.{product_read}
use Rattle.sweep.proofs.angle.turns_left.Goals as goal

pub returns : goal.returns
unfolding turns_left
returns c = let e = product_read c.args.a.dy c.args.b.dx c.requires.0.along c.requires.1.across in
    let f = product_read c.args.a.dx c.args.b.dy c.requires.0.across c.requires.1.along in
    λ i. lt_z (e i) (f i)
