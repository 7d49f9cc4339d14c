-- `solomon_i1::solomon_i1` meets its contract. Assumes nothing.
use Rattle.solomon_i1.proofs.Starting.{starts, ends_filled, ends_laid}
use Rattle.solomon_i1.proofs.solomon_i1.Goals as goal

pub lay_rounds-requires : goal.lay_rounds-requires
lay_rounds-requires c = let p = starts c.args.sheet.now c.args.depot c.args.vehicle c.args.tables.now.stops.now c.args.tables.now.ends.now c.args.tables.now.vehicles.now c.args.filled c.args.total c.requires.members _ c.terms_of-terms.ensures in record { joinable = p.0; total_bound = p.1.0; total_in_bounds = p.1.1; room = c.requires.room }

pub returns-clause-value : goal.returns-clause-value
returns-clause-value c = ends_filled c.args.sheet.now c.args.depot c.args.vehicle c.args.tables.now.stops.now c.args.tables.now.ends.now c.args.tables.now.vehicles.now c.args.filled c.args.total c.requires.members _ c.terms_of-terms.ensures _ _ _ c.lay_rounds.ensures.entered

pub returns-clause-stored : goal.returns-clause-stored
returns-clause-stored c = ends_laid c.args.sheet.now c.args.depot c.args.vehicle c.args.tables.now.stops.now c.args.tables.now.ends.now c.args.tables.now.vehicles.now c.args.filled c.args.total c.requires.members _ c.terms_of-terms.ensures _ _ _ c.lay_rounds.ensures.entered _ c.lay_rounds.ensures.stops_after
