-- `clarke_wright_slots::RouteSlots::start` meets its contract. Assumes nothing.
use mathlib.Core.Path.{sym, ◌∙◌}
use native.Mathlib.Omega.{arith}
use Rattle.std.proofs.Common.{rules}
use Rattle.constructive.specs.Terms.{route_fits}
use Rattle.clarke_wright_savings.specs.Savings.{starts_alone}
use Rattle.clarke_wright_slots.proofs.StartingRoutes.{begins, few, seats, sets_aside, ends_slotted}
use Rattle.clarke_wright_slots.proofs.RouteSlots.start.Goals as goal

pub loop-k-init : goal.loop-k-init
loop-k-init c = record { lent = search rules; as_long = search rules; starting = begins c.args.sheet.now c.args.terms c.args.members.now c.args.self.now.cells.now c.args.self.now.lens.now c.args.self.now.loads.now c.args.self.now.slots.now c.args.aside.now c.fill.new.self c.requires.routed c.requires.by_index c.requires.roomy c.requires.most_rows_in_bounds (c.fill.ensures.after (λ y e. e)) }

pub loop-k-preserved-then-fits : goal.loop-k-preserved-then-fits
unfolding starts_alone route_fits
loop-k-preserved-then-fits c = record { lent = search rules; as_long = search rules; starting = seats c.loop-k.invariant.starting c.loop-k-test.true (sym c.fits.ensures ∙ c.if-fits.true) _ _ _ _ c.start_route.ensures.route_started }

pub bounds-aside-end : goal.bounds-aside-end
bounds-aside-end c = omega (arith, few c.loop-k.invariant.starting, c.loop-k.invariant.starting.room.most, c.loop-k.invariant.starting.spares)

pub loop-k-preserved : goal.loop-k-preserved
unfolding starts_alone route_fits
loop-k-preserved c = record { lent = search rules; as_long = search rules; starting = sets_aside c.loop-k.invariant.starting c.loop-k-test.true (sym c.fits.ensures ∙ c.if-fits.false) }

pub returns-clause-slotted : goal.returns-clause-slotted
returns-clause-slotted c = ends_slotted c.loop-k.invariant.starting c.loop-k-test.false
