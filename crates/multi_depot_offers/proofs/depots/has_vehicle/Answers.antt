-- `multi_depot_offers::depots::has_vehicle` meets its contract. Assumes nothing.
use Rattle.std.proofs.Common.{rules, ◌∙◌}
use Rattle.std.proofs.lemmas.Iterator.{YieldsList-from_range}
use Rattle.std.proofs.lemmas.Iterator.Search.{any_from_yields_List}
use borrow.Author.Tests.{tests}
use Prim.Native.Nat.{ℕ}
use lib.Dec.{eqb}
use Rattle.sheet.specs.Fields.{vehicles_of}
use Rattle.sheet.specs.Values.{vehicle_of}
use Rattle.multi_depot_offers.proofs.Manning.{any_vehicle}
use Rattle.multi_depot_offers.proofs.depots.has_vehicle.Goals as goal

pub returns : goal.returns
returns c = let a = c.args in
    any_from_yields_List (λ (v : ℕ). eqb (vehicle_of a.sheet.now v).depot a.depot) _ _ _ c.any.ensures.ran (YieldsList-from_range 0 (vehicles_of a.sheet.now) (vehicles_of a.sheet.now) (search rules) (search rules)) (λ x b q k. search (rules, tests))
    ∙ any_vehicle a.sheet.now a.depot
