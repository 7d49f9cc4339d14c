-- `nearest_neighbor::greedy::lay_rounds` meets its contract. Assumes nothing.
use Rattle.std.proofs.Common.{rules}
use Rattle.nearest_neighbor.proofs.Laying.{begins, left_members, passes_on, close_room, closes, ends_count, ends_laid}
use Rattle.nearest_neighbor.proofs.greedy.lay_rounds.Goals as goal

pub loop-index-init : goal.loop-index-init
loop-index-init g c = (search rules, begins c.args.sheet.now c.args.depot (g.R.Rule.which c.args.rule) c.args.fleet.now c.args.tables.now.stops.now c.args.tables.now.ends.now c.args.tables.now.vehicles.now c.args.filled c.args.total c.requires.members c.requires.room c.requires.fleet)

pub grow_round-end-requires-clause-members : goal.grow_round-end-requires-clause-members
grow_round-end-requires-clause-members g c = left_members _ _ _ _ _ _ _ _ _ _ _ _ _ _ _ c.loop-index.invariant.1

pub loop-index-preserved-then-end-start : goal.loop-index-preserved-then-end-start
loop-index-preserved-then-end-start g c = (search rules, passes_on _ _ _ _ _ _ _ _ _ _ _ _ _ _ _ c.loop-index.invariant.1 c.loop-index-test.true _ _ c.grow_round-end.ensures.value c.grow_round-end.ensures.stops_after c.if-end-start.true)

pub close_round-done-requires : goal.close_round-done-requires
close_round-done-requires g c = let both = close_room _ _ _ _ _ _ _ _ _ _ _ _ _ _ _ c.loop-index.invariant.1 c.loop-index-test.true _ _ c.grow_round-end.ensures.value c.grow_round-end.ensures.stops_after c.if-end-start.false in record { rounds_in_bounds = both.0; end_le_most_rows = both.1 }

pub loop-index-preserved : goal.loop-index-preserved
loop-index-preserved g c = (search rules, rw c.close_round-done.ensures.stops_kept (closes _ _ _ _ _ _ _ _ _ _ _ _ _ _ _ c.loop-index.invariant.1 c.loop-index-test.true _ _ c.grow_round-end.ensures.value c.grow_round-end.ensures.stops_after c.if-end-start.false _ _ _ c.close_round-done.ensures.value c.close_round-done.ensures.ends_after.0 c.close_round-done.ensures.ends_after.1))

pub returns-clause-value : goal.returns-clause-value
returns-clause-value g c = ends_count _ _ _ _ _ _ _ _ _ _ _ _ _ _ _ c.loop-index.invariant.1 c.loop-index-test.false

pub returns-clause-stored : goal.returns-clause-stored
returns-clause-stored g c = ends_laid _ _ _ _ _ _ _ _ _ _ _ _ _ _ _ c.loop-index.invariant.1 c.loop-index-test.false
