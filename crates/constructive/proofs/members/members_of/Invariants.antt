-- `constructive::members::members_of` meets its contract. Assumes nothing.
use lib.Dec.{eqb}
use lib.ListN.{get_or}
use Rattle.constructive.proofs.members.members_of.Given as goal

abbrev pub ghost-gather : goal.ghost-gather
ghost-gather a = λ c. eqb (get_or a.keeps.0.now c 0) a.keeps.1.now
