-- `nearest_neighbor::greedy::grow_round` meets its contract. Assumes nothing.
use mathlib.Core.Path.{◌∙◌, ap}
use native.Mathlib.Omega.{arith}
use Rattle.evaluation.specs.declared.limits.RouteLimits.{RouteLimits}
use Rattle.nearest_neighbor_choice.specs.Partial.{empty_partial}
use Rattle.nearest_neighbor.proofs.Growing.{begins, length_same, routed, rides, grown_full, inside, stop_row, goes_on, grown_out, ends_at, ends_laid}
use Rattle.nearest_neighbor.proofs.greedy.grow_round.Goals as goal

pub loop-end-init : goal.loop-end-init
loop-end-init g c = ((c.vehicle_at-vehicle.ensures.value, c.limits_for-limits.ensures), begins c.args.sheet.now c.args.depot (g.R.Rule.which c.args.rule) c.args.index c.args.stops.now c.args.start c.args.total _ c.requires.members (c.empty_partial-partial.ensures ∙ ap (λ (l : RouteLimits). empty_partial l.rest c.args.depot) c.limits_for-limits.ensures))

pub slice_bounds-nearest-end : goal.slice_bounds-nearest-end
slice_bounds-nearest-end g c = omega (arith, c.loop-end.invariant.1.members.within, length_same _ _ _ _ _ _ _ _ _ _ c.loop-end.invariant.1)

pub nearest-requires-clause-partial_route : goal.nearest-requires-clause-partial_route
nearest-requires-clause-partial_route g c = rides _ _ _ _ _ _ _ _ _ _ c.loop-end.invariant.1 c.loop-end-test.true

pub nearest-requires-clause-routed : goal.nearest-requires-clause-routed
nearest-requires-clause-routed g c = routed _ _ _ _ _ _ _ _ _ _ c.loop-end.invariant.1

pub shape_of-stops-in_default : goal.shape_of-stops-in_default
shape_of-stops-in_default g c = length_same _ _ _ _ _ _ _ _ _ _ c.loop-end.invariant.1

pub returns-in_default : goal.returns-in_default
returns-in_default g c = let o = c.loop-end.invariant.1 in let t = grown_full _ _ _ _ _ _ _ _ _ _ c.loop-end.invariant.1 c.nearest.result _ _ c.loop-end.invariant.0.0 c.loop-end.invariant.0.1 c.nearest.ensures c.in_default.is in record {
  value = ends_at _ _ _ _ _ _ _ _ _ _ o t;
  stops_after = ends_laid _ _ _ _ _ _ _ _ _ _ o t;
}

pub overflow_add-from : goal.overflow_add-from
overflow_add-from g c = omega (arith, inside _ _ _ _ _ _ _ _ _ _ c.loop-end.invariant.1 c.nearest.result _ _ c.loop-end.invariant.0.0 c.loop-end.invariant.0.1 c.nearest.ensures _ _ c.in-Some.is, c.loop-end.invariant.1.all, c.loop-end.invariant.1.members.most)

pub offset_bounds-stops-from : goal.offset_bounds-stops-from
offset_bounds-stops-from g c = omega (arith, inside _ _ _ _ _ _ _ _ _ _ c.loop-end.invariant.1 c.nearest.result _ _ c.loop-end.invariant.0.0 c.loop-end.invariant.0.1 c.nearest.ensures _ _ c.in-Some.is, c.loop-end.invariant.1.all, c.loop-end.invariant.1.members.most)

pub bounds-stops-from : goal.bounds-stops-from
bounds-stops-from g c = omega (arith, inside _ _ _ _ _ _ _ _ _ _ c.loop-end.invariant.1 c.nearest.result _ _ c.loop-end.invariant.0.0 c.loop-end.invariant.0.1 c.nearest.ensures _ _ c.in-Some.is, c.loop-end.invariant.1.all, c.loop-end.invariant.1.members.within, length_same _ _ _ _ _ _ _ _ _ _ c.loop-end.invariant.1)

pub drive_on-partial-requires-clause-partial_route : goal.drive_on-partial-requires-clause-partial_route
drive_on-partial-requires-clause-partial_route g c = rides _ _ _ _ _ _ _ _ _ _ c.loop-end.invariant.1 c.loop-end-test.true

pub drive_on-partial-requires-clause-row_bound : goal.drive_on-partial-requires-clause-row_bound
drive_on-partial-requires-clause-row_bound g c = stop_row _ _ _ _ _ _ _ _ _ _ c.loop-end.invariant.1 c.nearest.result _ _ c.loop-end.invariant.0.0 c.loop-end.invariant.0.1 c.nearest.ensures _ _ c.in-Some.is

pub bring-requires : goal.bring-requires
bring-requires g c = (omega arith, omega (arith, inside _ _ _ _ _ _ _ _ _ _ c.loop-end.invariant.1 c.nearest.result _ _ c.loop-end.invariant.0.0 c.loop-end.invariant.0.1 c.nearest.ensures _ _ c.in-Some.is, c.loop-end.invariant.1.all, c.loop-end.invariant.1.members.within, length_same _ _ _ _ _ _ _ _ _ _ c.loop-end.invariant.1))

pub loop-end-preserved : goal.loop-end-preserved
loop-end-preserved g c = (c.loop-end.invariant.0, goes_on _ _ _ _ _ _ _ _ _ _ c.loop-end.invariant.1 c.nearest.result _ _ c.loop-end.invariant.0.0 c.loop-end.invariant.0.1 c.nearest.ensures _ _ c.in-Some.is _ _ c.bring.ensures c.drive_on-partial.ensures)

pub shape_of-stops : goal.shape_of-stops
shape_of-stops g c = length_same _ _ _ _ _ _ _ _ _ _ c.loop-end.invariant.1

pub returns : goal.returns
returns g c = let o = c.loop-end.invariant.1 in let t = grown_out _ _ _ _ _ _ _ _ _ _ o c.loop-end-test.false in record {
  value = omega (arith, ends_at _ _ _ _ _ _ _ _ _ _ o t, o.all);
  stops_after = ends_laid _ _ _ _ _ _ _ _ _ _ o t;
}
