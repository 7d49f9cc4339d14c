-- `planner::limit_rounds` meets its contract. Assumes nothing.
use native.Mathlib.Omega.{arith}
use Rattle.planner.proofs.Limiting.{limit_answered, limit_parts}
use Rattle.planner.proofs.limit_rounds.Goals as goal

pub returns : goal.returns
returns c =
    let parts = limit_parts _ _ _ _ _ _ c.limit.ensures (λ i. omega (arith, c.shared_slice_known-1.given i)) in
    record {
      limit_answered = limit_answered _ _ _ _ _ _ c.limit.ensures;
      limit_once = parts.0;
      limit_few = parts.1.0;
      limit_stood = parts.1.1.0;
      limit_aside = parts.1.1.1.0;
      limit_reasoned = parts.1.1.1.1;
    }
