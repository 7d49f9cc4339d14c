-- How often a row stands in a list. Assumes nothing.
use Rattle.std.specs.Prelude.{◌<◌, Bool, true, false, T}
use Rattle.std.proofs.Common.{arith}
use Rattle.lists.specs.Count.{one}

-- what is counted holds
pub stop_counted : (b : Bool) → 0 < one b → T b
stop_counted true h = tt
stop_counted false h = absurd (omega arith)
