-- `plan_reader::each_once` meets its contract. Assumes nothing.
use Prim.Native.Nat.{◌+◌}
use native.Mathlib.Omega.{arith}
use lib.ListN.{length}
use Rattle.std.proofs.lemmas.Bool.{lt-leb}
use Rattle.plan_reader.specs.Laws.Links.{links_at}
use Rattle.plan_reader.specs.Laws.Tally.{too_few, as_many}
use Rattle.plan_reader.proofs.each_once.Goals as goal

pub single-requires : goal.single-requires
single-requires c = λ i h. omega (arith, (links_at c.args.sheet.now c.args.rows.now i h c.requires.t).1, c.rows.ensures)

pub returns-then-rows-depots : goal.returns-then-rows-depots
returns-then-rows-depots c = as_many c.args.sheet.now c.args.rows.now c.requires.t (omega arith) c.single.result c.single.ensures

pub returns-else-rows-depots : goal.returns-else-rows-depots
returns-else-rows-depots c = rw (lt-leb c.rows.result (length c.args.rows.now + c.depots.result) (omega arith)) (too_few c.args.sheet.now c.args.rows.now c.requires.t (omega arith))
