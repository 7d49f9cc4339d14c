-- `multi_depot_offers::members::fleet_of` meets its contract. Assumes nothing.
use lib.Dec.{eqb}
use Rattle.sheet.specs.Values.{vehicle_of}
use Rattle.multi_depot_offers.proofs.members.fleet_of.Given as goal

abbrev pub ghost-gather : goal.ghost-gather
ghost-gather a = λ v. eqb (vehicle_of a.keeps.0.now v).depot a.keeps.1.now
