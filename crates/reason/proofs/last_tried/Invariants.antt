-- `reason::last_tried` meets its contract. Assumes nothing.
use Rattle.std.proofs.Common.{◌<◌, unwrap_or}
use Rattle.std.specs.Option.{ForSome}
use Rattle.sheet.specs.Depots.{depots_of}
use Rattle.reason.proofs.Trying.{Trying}
use Rattle.reason.proofs.last_tried.Given as goal

abbrev pub invariant-loop-d : goal.invariant-loop-d
invariant-loop-d l = record { bound : ForSome l.last (λ d. d < depots_of l.sheet); trying : Trying l.sheet l.stop (unwrap_or l.last (depots_of l.sheet)) l.d }
