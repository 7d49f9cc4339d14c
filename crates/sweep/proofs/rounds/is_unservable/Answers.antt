-- `sweep::rounds::is_unservable` meets its contract. Assumes nothing.
use Rattle.sweep.proofs.Judging.{too_heavy, light}
use Rattle.sweep.proofs.rounds.is_unservable.Goals as goal

pub returns-then-terms-demand : goal.returns-then-terms-demand
returns-then-terms-demand c = too_heavy c.args.sheet.now c.args.terms c.args.stops.now c.args.at c.requires.at_in_bounds c.args.demand c.requires.demand_value c.if-terms-demand.true

pub returns : goal.returns
returns c = light c.args.sheet.now c.args.terms c.args.stops.now c.args.at c.requires.at_in_bounds c.args.demand c.requires.demand_value c.if-terms-demand.false _ c.fits.ensures
