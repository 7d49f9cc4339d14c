-- `reason::reason_of` meets its contract. Assumes nothing.
use Rattle.std.proofs.Common.{◌∙◌, arith}
use Rattle.multi_depot_offers.proofs.Asking.{depot_row}
use Rattle.sheet.specs.Depots.{depots_of}
use Rattle.reason.specs.Reason.{reason_by, reason_of}
use Rattle.reason.specs.Laws.Reason.{no_fleet}
use Rattle.reason.proofs.reason_of.Goals as goal

pub returns-in_default : goal.returns-in_default
unfolding reason_by reason_of
returns-in_default c = rw (← c.in_default.ensures.value) (rw (no_fleet c.args.sheet.now c.accepted.ensures (depots_of c.args.sheet.now) (omega arith)))

pub returns-in_default-first_vehicle : goal.returns-in_default-first_vehicle
unfolding reason_by reason_of
returns-in_default-first_vehicle c = rw (← c.in-Some.ensures.value, c.in_default-first_vehicle.ensures.value)

pub reason_by-requires : goal.reason_by-requires
reason_by-requires c = record { home = depot_row _ _ c.requires _ c.in-Some.ensures.bound; vehicle = c.in-Some-first_vehicle.ensures.bound; stop = c.requires }

pub returns : goal.returns
unfolding reason_of
returns c = c.reason_by.ensures ∙ rw (← c.in-Some.ensures.value, c.in-Some-first_vehicle.ensures.value)
