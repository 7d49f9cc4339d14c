-- No refusal has the number 0. Assumes nothing.
use Rattle.std.specs.Prelude.{◌≡◌, ◌<◌}
use Rattle.std.proofs.Common.{arith}
use Rattle.sheet.specs.declared.refusal.Refusal.{Refusal}
use Rattle.sheet.specs.declared.refusal.Refusal.TheVariants.{Header, Counts, Method, Lengths, Rows, Entries, Vehicles, Fleet, Depots, Plan, Text, TextRows, Rates, Crews}
use Rattle.sheet.specs.Told.{number_of}

pub number_positive : (refusal : Refusal) → 0 < number_of refusal
number_positive Header = omega arith
number_positive Counts = omega arith
number_positive Method = omega arith
number_positive Lengths = omega arith
number_positive Rows = omega arith
number_positive Entries = omega arith
number_positive Vehicles = omega arith
number_positive Fleet = omega arith
number_positive Depots = omega arith
number_positive Plan = omega arith
number_positive Text = omega arith
number_positive TextRows = omega arith
number_positive Rates = omega arith
number_positive Crews = omega arith

pub told_some : (refusal : Refusal) → number_of refusal ≡ 0 → ⊥
told_some refusal e = omega (arith, number_positive refusal, e)
