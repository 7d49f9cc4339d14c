-- `sheet_refusal::field::capacity` meets its contract. Assumes nothing.
use Rattle.sheet_refusal.proofs.Fields.{capacity_test}
use Rattle.sheet_refusal.proofs.field.capacity.Goals as goal

pub returns : goal.returns
returns c = capacity_test c.args.pattern
