-- `solomon_import::writing::row_fields` meets its contract (`Made.antt`). Assumes nothing.
use mathlib.Core.Path.{◌∙◌}
use mir.Syntax.{w32}
use mir.ValLaws.{to_z-of_z}
use Rattle.solomon_import.specs.Instance.{customer_of}
use Rattle.solomon_import.specs.Laws.Ranged.{ranged}
use Rattle.solomon_import.proofs.Made.{x_fits, y_fits, demand_fits, ready_fits, due_fits, service_fits, row_made}
use Rattle.solomon_import.proofs.writing.row_fields.Goals as goal

pub value-requires : goal.value-requires
value-requires c = x_fits c.args.line.now (ranged (customer_of c.args.line.now) c.requires)

pub value-requires-2 : goal.value-requires-2
value-requires-2 c = y_fits c.args.line.now (ranged (customer_of c.args.line.now) c.requires)

pub value-requires-3 : goal.value-requires-3
value-requires-3 c = demand_fits c.args.line.now (ranged (customer_of c.args.line.now) c.requires)

pub value-requires-4 : goal.value-requires-4
value-requires-4 c = service_fits c.args.line.now (ranged (customer_of c.args.line.now) c.requires)

pub value-requires-5 : goal.value-requires-5
value-requires-5 c = ready_fits c.args.line.now (ranged (customer_of c.args.line.now) c.requires)

pub value-requires-6 : goal.value-requires-6
value-requires-6 c = due_fits c.args.line.now (ranged (customer_of c.args.line.now) c.requires)

pub returns : goal.returns
returns c = row_made c.args.line.now (ranged (customer_of c.args.line.now) c.requires) c.args.marks _ _ _ _ _ _
    (to_z-of_z w32 c.value.result (record { sfits = c.value.type_inv }) ∙ c.value.ensures)
    (to_z-of_z w32 c.value-2.result (record { sfits = c.value-2.type_inv }) ∙ c.value-2.ensures)
    (to_z-of_z w32 c.value-3.result (record { sfits = c.value-3.type_inv }) ∙ c.value-3.ensures)
    (to_z-of_z w32 c.value-5.result (record { sfits = c.value-5.type_inv }) ∙ c.value-5.ensures)
    (to_z-of_z w32 c.value-6.result (record { sfits = c.value-6.type_inv }) ∙ c.value-6.ensures)
    (to_z-of_z w32 c.value-4.result (record { sfits = c.value-4.type_inv }) ∙ c.value-4.ensures)
