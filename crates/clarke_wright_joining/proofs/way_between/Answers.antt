-- `clarke_wright_joining::way_between` meets its contract. Assumes nothing.
use Rattle.clarke_wright_joining.proofs.Ways.{first_at, last_at}
use Rattle.clarke_wright_joining.proofs.way_between.Goals as goal

pub returns : goal.returns
returns c = rw (c.way_of.ensures, first_at c.args.i c.args.ri.now c.requires.0, last_at c.args.i c.args.ri.now c.requires.0, first_at c.args.j c.args.rj.now c.requires.1, last_at c.args.j c.args.rj.now c.requires.1)
