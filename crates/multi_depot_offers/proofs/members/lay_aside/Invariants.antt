-- `multi_depot_offers::members::lay_aside` meets its contract. Assumes nothing.
use mathlib.Core.Bool.{◌||◌}
use lib.Dec.{leb, eqb}
use lib.ListN.{get_or}
use Rattle.multi_depot_offers.proofs.members.lay_aside.Given as goal

abbrev pub ghost-gather : goal.ghost-gather
ghost-gather a = λ c. leb a.keeps.0 (get_or a.keeps.1.now c 0) || eqb (get_or a.keeps.2.now c 0) 1
