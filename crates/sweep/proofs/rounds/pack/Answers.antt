-- `sweep::rounds::pack` meets its contract. Assumes nothing.
use Rattle.std.proofs.Common.{rules}
use Rattle.sweep.proofs.Filling.{begins, falls, meet_asks, goes_on, ends_laid, close_asks, ends_closed}
use Rattle.sweep.proofs.rounds.pack.Goals as goal

pub loop-packing-init : goal.loop-packing-init
loop-packing-init c = (search rules, begins c.args.sheet.now c.args.terms c.args.tables.now.stops.now c.args.tables.now.ends.now c.args.tables.now.vehicles.now c.args.filled c.args.total c.requires.members c.requires.room)

pub meet-packing-requires : goal.meet-packing-requires
meet-packing-requires c = let both = meet_asks _ _ _ _ _ _ _ _ _ _ _ c.loop-packing.invariant.1 c.loop-packing-test.true in record { members = both.0; room = both.1.0; midway = both.1.1 }

pub loop-packing-smaller : goal.loop-packing-smaller
loop-packing-smaller c = falls _ _ _ _ _ _ _ _ _ _ _ c.loop-packing-test.true c.meet-packing.ensures.met

pub loop-packing-preserved : goal.loop-packing-preserved
loop-packing-preserved c = (search rules, goes_on _ _ _ _ _ _ _ _ _ _ _ c.loop-packing.invariant.1 c.loop-packing-test.true _ _ _ _ c.meet-packing.ensures.met)

pub returns-then-closed-end : goal.returns-then-closed-end
returns-then-closed-end c = let both = ends_laid _ _ _ _ _ _ _ _ _ _ _ c.loop-packing.invariant.1 c.loop-packing-test.false c.if-closed-end.true in record { value = both.0; stored = both.1; lent = c.loop-packing.invariant.0 }

pub close_round-requires : goal.close_round-requires
close_round-requires c = let both = close_asks _ _ _ _ _ _ _ _ _ _ _ c.loop-packing.invariant.1 c.loop-packing-test.false c.if-closed-end.false in record { rounds_in_bounds = both.0; end_le_most_rows = both.1 }

pub returns : goal.returns
returns c = let both = ends_closed _ _ _ _ _ _ _ _ _ _ _ c.loop-packing.invariant.1 c.loop-packing-test.false c.if-closed-end.false _ _ _ c.close_round.ensures.value c.close_round.ensures.ends_after.0 c.close_round.ensures.ends_after.1 in rw c.close_round.ensures.stops_kept (record { value = both.0; stored = both.1; lent = search rules })
