-- `plan_reader::index_of` meets its contract. Assumes nothing.
use Rattle.std.proofs.Common.{rules, ◌≡◌}
use Rattle.std.proofs.lemmas.Iterator.{first_from_Range}
use borrow.Author.Tests.{tests}
use Rattle.sheet.specs.Fields.{vehicle_at, id_field}
use Rattle.plan_reader.proofs.Indexing.{first_with}
use Rattle.plan_reader.proofs.index_of.Goals as goal

pub returns-clause-value : goal.returns-clause-value
returns-clause-value c = let a = c.args in
    first_with a.sheet.now a.id c.find.result (rw c.vehicles.ensures.value at (first_from_Range _ _ _ c.find.result (λ v. id_field a.sheet.now (vehicle_at a.sheet.now v) ≡ a.id) (λ v. id_field a.sheet.now (vehicle_at a.sheet.now v) ≡ a.id → ⊥) c.find.ensures.ran (λ x q k. search (rules, tests)) (λ x q k. search (rules, tests))))
