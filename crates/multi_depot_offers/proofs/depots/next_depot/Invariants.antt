-- `multi_depot_offers::depots::next_depot` meets its contract. Assumes nothing.
use Rattle.std.proofs.Common.{◌<◌, unwrap_or}
use Rattle.std.specs.Option.{ForSome}
use Rattle.sheet.specs.Depots.{depots_of}
use Rattle.multi_depot_offers.proofs.Asking.{Seeking}
use Rattle.multi_depot_offers.proofs.depots.next_depot.Given as goal

abbrev pub invariant-loop-d : goal.invariant-loop-d
invariant-loop-d l = record { bound : ForSome l.best (λ d. d < depots_of l.sheet); seeking : Seeking l.sheet l.stop (unwrap_or l.after (depots_of l.sheet)) (unwrap_or l.best (depots_of l.sheet)) l.d }
