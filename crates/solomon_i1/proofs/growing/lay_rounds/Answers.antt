-- `solomon_i1::growing::lay_rounds` meets its contract. Assumes nothing.
use mathlib.Core.Path.{refl}
use native.Mathlib.Nat.{sub-zero}
use native.Mathlib.Omega.{arith}
use lib.Seq.{length-take-le}
use Rattle.std.proofs.Common.{rules}
use Rattle.solomon_i1.proofs.Laying.{begins, within, most, left_routed, seed_in_lem, seed_in_front, total_within, known, goes_aside, left_joinable, left_seed, left_room, grown_some, grown_within, close_room, goes_round, ends_entered, ends_laid}
use Rattle.solomon_i1.proofs.growing.lay_rounds.Goals as goal

pub loop-at-init : goal.loop-at-init
loop-at-init c = (search rules, begins c.args.sheet.now c.args.terms c.args.tables.now.stops.now c.args.tables.now.ends.now c.args.tables.now.vehicles.now c.args.trial.now c.args.filled c.args.total c.requires.joinable c.requires.total_bound.0 c.requires.total_bound.1 c.requires.total_in_bounds.0 c.requires.total_in_bounds.1 c.requires.room)

pub slice_bounds-farthest-end : goal.slice_bounds-farthest-end
slice_bounds-farthest-end c = within _ _ _ _ _ _ _ _ _ _ _ _ _ _ _ c.loop-at.invariant.1

pub farthest-seed-requires : goal.farthest-seed-requires
farthest-seed-requires c = left_routed _ _ _ _ _ _ _ _ _ _ _ _ _ _ _ c.loop-at.invariant.1

pub overflow_add-at : goal.overflow_add-at
overflow_add-at c = omega (arith, seed_in_lem _ _ _ _ _ _ _ _ _ _ _ _ _ _ _ c.loop-at.invariant.1 c.loop-at-test.true c.farthest-seed.result c.farthest-seed.ensures, most _ _ _ _ _ _ _ _ _ _ _ _ _ _ _ c.loop-at.invariant.1)

pub offset_bounds-stops-at-in-loop-at : goal.offset_bounds-stops-at-in-loop-at
offset_bounds-stops-at-in-loop-at c = omega (arith, seed_in_lem _ _ _ _ _ _ _ _ _ _ _ _ _ _ _ c.loop-at.invariant.1 c.loop-at-test.true c.farthest-seed.result c.farthest-seed.ensures, most _ _ _ _ _ _ _ _ _ _ _ _ _ _ _ c.loop-at.invariant.1)

pub bounds-stops-at : goal.bounds-stops-at
bounds-stops-at c = seed_in_lem _ _ _ _ _ _ _ _ _ _ _ _ _ _ _ c.loop-at.invariant.1 c.loop-at-test.true c.farthest-seed.result c.farthest-seed.ensures

pub goes_alone-requires : goal.goes_alone-requires
goes_alone-requires c = let both = known _ _ _ _ _ _ _ _ _ _ _ _ _ _ _ c.loop-at.invariant.1 c.loop-at-test.true c.farthest-seed.result c.farthest-seed.ensures in both.1

pub overflow_add-at-then-not-goes_alone : goal.overflow_add-at-then-not-goes_alone
overflow_add-at-then-not-goes_alone c = omega (arith, seed_in_lem _ _ _ _ _ _ _ _ _ _ _ _ _ _ _ c.loop-at.invariant.1 c.loop-at-test.true c.farthest-seed.result c.farthest-seed.ensures, most _ _ _ _ _ _ _ _ _ _ _ _ _ _ _ c.loop-at.invariant.1)

pub slice_bounds-send_last-end : goal.slice_bounds-send_last-end
slice_bounds-send_last-end c = omega (arith, total_within _ _ _ _ _ _ _ _ _ _ _ _ _ _ _ c.loop-at.invariant.1)

pub send_last-requires : goal.send_last-requires
send_last-requires c = rw (sub-zero c.args.total, length-take-le c.args.total c.loop-at.tables.stops.now (total_within _ _ _ _ _ _ _ _ _ _ _ _ _ _ _ c.loop-at.invariant.1)) (seed_in_front _ _ _ _ _ _ _ _ _ _ _ _ _ _ _ c.loop-at.invariant.1 c.loop-at-test.true c.farthest-seed.result c.farthest-seed.ensures)

pub loop-at-preserved-then-not-goes_alone : goal.loop-at-preserved-then-not-goes_alone
loop-at-preserved-then-not-goes_alone c = (search rules, rw (sub-zero c.args.total) (goes_aside _ _ _ _ _ _ _ _ _ _ _ _ _ _ _ c.loop-at.invariant.1 c.loop-at-test.true c.farthest-seed.result c.farthest-seed.ensures c.goes_alone.result c.goes_alone.ensures (c.if-not-goes_alone.true) _ (rw (sub-zero c.args.total) at c.send_last.ensures)))

pub open_round-at-requires-clause-joinable : goal.open_round-at-requires-clause-joinable
open_round-at-requires-clause-joinable c = left_joinable _ _ _ _ _ _ _ _ _ _ _ _ _ _ _ c.loop-at.invariant.1 c.loop-at-test.true c.farthest-seed.result c.farthest-seed.ensures

pub open_round-at-requires-clause-seed_in_bounds : goal.open_round-at-requires-clause-seed_in_bounds
open_round-at-requires-clause-seed_in_bounds c = (left_seed _ _ _ _ _ _ _ _ _ _ _ _ _ _ _ c.loop-at.invariant.1 c.loop-at-test.true c.farthest-seed.result c.farthest-seed.ensures, left_room _ _ _ _ _ _ _ _ _ _ _ _ _ _ _ c.loop-at.invariant.1 c.loop-at-test.true c.farthest-seed.result c.farthest-seed.ensures)

pub close_round-done-requires : goal.close_round-done-requires
close_round-done-requires c = let both = close_room _ _ _ _ _ _ _ _ _ _ _ _ _ _ _ c.loop-at.invariant.1 c.loop-at-test.true c.farthest-seed.result c.farthest-seed.ensures c.open_round-at.result c.open_round-at.ensures.value in record { rounds_in_bounds = both.0; end_le_most_rows = both.1 }

pub loop-at-smaller : goal.loop-at-smaller
loop-at-smaller c = omega (arith, c.loop-at-test.true, grown_some _ _ _ _ _ _ _ _ _ _ _ _ _ _ _ c.loop-at.invariant.1 c.loop-at-test.true c.farthest-seed.result c.farthest-seed.ensures c.open_round-at.result c.open_round-at.ensures.value, grown_within _ _ _ _ _ _ _ _ _ _ _ _ _ _ _ c.loop-at.invariant.1 c.loop-at-test.true c.farthest-seed.result c.farthest-seed.ensures c.open_round-at.result c.open_round-at.ensures.value)

pub loop-at-preserved : goal.loop-at-preserved
loop-at-preserved c = (search rules, rw c.close_round-done.ensures.stops_kept (goes_round _ _ _ _ _ _ _ _ _ _ _ _ _ _ _ c.loop-at.invariant.1 c.loop-at-test.true c.farthest-seed.result c.farthest-seed.ensures c.open_round-at.result c.open_round-at.ensures.value c.goes_alone.result c.goes_alone.ensures (c.if-not-goes_alone.false) _ _ _ _ _ _ c.open_round-at.ensures.left_after refl c.open_round-at.auto.trial c.close_round-done.ensures.value c.close_round-done.ensures.ends_after.0 c.close_round-done.ensures.ends_after.1))

pub returns-clause-entered : goal.returns-clause-entered
returns-clause-entered c = ends_entered _ _ _ _ _ _ _ _ _ _ _ _ _ _ _ c.loop-at.invariant.1 c.loop-at-test.false

pub returns-clause-stops_after : goal.returns-clause-stops_after
returns-clause-stops_after c = ends_laid _ _ _ _ _ _ _ _ _ _ _ _ _ _ _ c.loop-at.invariant.1 c.loop-at-test.false
