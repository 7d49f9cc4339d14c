-- `reason::first_vehicle` meets its contract. Assumes nothing.
use Rattle.std.proofs.Common.{rules, ◌≡◌}
use Rattle.std.proofs.lemmas.Iterator.{first_from_Range}
use borrow.Author.Tests.{tests}
use Rattle.sheet.specs.Values.{vehicle_of}
use Rattle.reason.proofs.Fleets.{first_own}
use Rattle.reason.proofs.first_vehicle.Goals as goal

pub returns-clause-value : goal.returns-clause-value
returns-clause-value c = let a = c.args in
    first_own a.sheet.now a.depot c.find.result (rw c.vehicles.ensures.value at (first_from_Range _ _ _ c.find.result (λ v. (vehicle_of a.sheet.now v).depot ≡ a.depot) (λ v. (vehicle_of a.sheet.now v).depot ≡ a.depot → ⊥) c.find.ensures.ran (λ x q k. search (rules, tests)) (λ x q k. search (rules, tests))))
