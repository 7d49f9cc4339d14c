-- `plan::write_visits` meets its contract. Assumes nothing.
use mathlib.Core.Path.{◌≡◌}
use lib.ListN.{length}
use Rattle.plan.proofs.Visiting.{Visiting}
use Rattle.plan.proofs.write_visits.Given as goal

abbrev pub invariant-loop-i : goal.invariant-loop-i
invariant-loop-i l = (l.i-end ≡ length l.route) × Visiting l.sheet l.depot l.placed l.route l.initial.plan l.plan l.progress l.i
