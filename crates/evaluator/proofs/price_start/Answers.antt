-- `evaluator::price_start` meets its contract. Assumes nothing.
use Rattle.std.proofs.Common.{refl}
use Rattle.std.specs.Float.Ieee.{neg, of_bits, of_fields}
use Rattle.evaluator.proofs.price_start.Goals as goal

pub returns : goal.returns
unfolding neg of_bits of_fields
returns c = refl
