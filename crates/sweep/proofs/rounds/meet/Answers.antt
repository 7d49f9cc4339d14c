-- `sweep::rounds::meet` meets its contract. Assumes nothing.
use native.Mathlib.Omega.{arith}
use Rattle.sweep.proofs.Meeting.{next_row, alone_asks, closing_asks, load_fits, goes_aside, begins_round, joins_round}
use Rattle.sweep.proofs.rounds.meet.Goals as goal

pub demand-demand-requires : goal.demand-demand-requires
demand-demand-requires c = next_row c.args.sheet.now c.args.tables.now.stops.now c.args.terms.depot c.args.packing c.args.total c.requires.members c.requires.midway

pub is_unservable-requires : goal.is_unservable-requires
is_unservable-requires c = let both = alone_asks c.args.sheet.now c.args.tables.now.stops.now c.args.terms.depot c.args.packing c.args.total c.requires.members c.requires.midway _ c.demand-demand.ensures in record { routed = both.0; at_in_bounds = both.1.0; demand_value = both.1.1 }

pub returns-then-is_unservable-clause-met : goal.returns-then-is_unservable-clause-met
returns-then-is_unservable-clause-met c = goes_aside c.args.sheet.now c.args.terms c.args.total c.args.tables.now.stops.now c.args.tables.now.ends.now c.args.tables.now.vehicles.now c.args.packing _ c.is_unservable.ensures c.if-is_unservable.true _ c.set_aside.ensures

pub overflow_add-load : goal.overflow_add-load
overflow_add-load c = record { fits = omega (arith, load_fits c.args.sheet.now c.args.tables.now.stops.now c.args.terms.depot c.args.packing c.args.total c.requires.members c.requires.midway _ c.demand-demand.ensures) }

pub is_closing-requires : goal.is_closing-requires
is_closing-requires c = let both = closing_asks c.args.sheet.now c.args.tables.now.stops.now c.args.terms.depot c.args.packing c.args.total c.requires.members c.requires.midway _ c.demand-demand.ensures in record { routed = both.0; start_le_end = both.1.0; load_value = both.1.1 }

pub overflow_add-result : goal.overflow_add-result
overflow_add-result c = omega (arith, c.requires.members.most, c.requires.midway.next, c.requires.midway.within)

pub returns-then-is_closing-clause-met : goal.returns-then-is_closing-clause-met
returns-then-is_closing-clause-met c = rw c.close_round-closed.ensures.stops_kept (begins_round c.args.sheet.now c.args.terms c.args.total c.args.tables.now.stops.now c.args.tables.now.ends.now c.args.tables.now.vehicles.now c.args.packing _ c.is_unservable.ensures c.if-is_unservable.false _ c.is_closing.ensures _ c.demand-demand.ensures c.if-is_closing.true _ _ _ c.close_round-closed.ensures.value c.close_round-closed.ensures.ends_after.0 c.close_round-closed.ensures.ends_after.1)

pub returns-clause-met : goal.returns-clause-met
returns-clause-met c = joins_round c.args.sheet.now c.args.terms c.args.total c.args.tables.now.stops.now c.args.tables.now.ends.now c.args.tables.now.vehicles.now c.args.packing _ c.is_unservable.ensures c.if-is_unservable.false _ c.is_closing.ensures _ c.demand-demand.ensures c.if-is_closing.false
