-- `sheet_refusal::field::demand` meets its contract. Assumes nothing.
use Rattle.sheet_refusal.proofs.Fields.{demand_test}
use Rattle.sheet_refusal.proofs.field.demand.Goals as goal

pub returns : goal.returns
returns c = demand_test c.args.pattern
