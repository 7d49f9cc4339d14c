-- `sweep::rounds::is_closing` meets its contract. Assumes nothing.
use Rattle.sweep.proofs.Judging.{stays, full, roomy}
use Rattle.sweep.proofs.rounds.is_closing.Goals as goal

pub returns-then-start-end : goal.returns-then-start-end
returns-then-start-end c = stays c.args.sheet.now c.args.terms c.args.stops.now c.args.start c.args.end c.if-start-end.true

pub returns-then-terms-load : goal.returns-then-terms-load
returns-then-terms-load c = full c.args.sheet.now c.args.terms c.args.stops.now c.args.start c.args.end c.requires.start_le_end.0 c.requires.start_le_end.1 c.if-start-end.false c.args.load c.requires.load_value c.if-terms-load.true

pub returns : goal.returns
returns c = roomy c.args.sheet.now c.args.terms c.args.stops.now c.args.start c.args.end c.requires.start_le_end.0 c.requires.start_le_end.1 c.if-start-end.false c.args.load c.requires.load_value c.if-terms-load.false _ c.fits.ensures
