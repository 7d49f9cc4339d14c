-- `sweep::angle::is_below` meets its contract. Assumes nothing.
use Rattle.sweep.proofs.Signed.{apart, together}
use Rattle.sweep.proofs.angle.is_below.Goals as goal

pub returns-then-p-q : goal.returns-then-p-q
returns-then-p-q c = let a = c.args in
    apart a.a a.b c.part-p.result c.part-q.result c.part-p.ensures c.part-q.ensures c.if-p-q.true

pub returns : goal.returns
returns c = let a = c.args in
    together a.a a.b c.part-p.result c.part-q.result c.part-p.ensures c.part-q.ensures c.if-p-q.false c.turns_left.result c.turns_left.ensures
