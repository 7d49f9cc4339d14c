-- `clarke_wright_savings::Savings::push_all` meets its contract. Assumes nothing.
use mathlib.Core.Path.{refl}
use native.Mathlib.Omega.{arith}
use Rattle.clarke_wright_savings.specs.Savings.{savings_of}
use Rattle.std.proofs.Common.{rules}
use Rattle.clarke_wright_savings.proofs.Pushing.{room_kept}
use Rattle.clarke_wright_savings.proofs.Gathering.{none_yet, few, of_fits, of_takes}
use Rattle.clarke_wright_savings.proofs.Savings.push_all.Goals as goal

pub loop-start-init : goal.loop-start-init
unfolding savings_of
loop-start-init c = record { as_long = search rules; lent = search rules; gathering = none_yet _ refl _ _ _ _ _ _ }

pub loop-start-preserved : goal.loop-start-preserved
loop-start-preserved c = let p = c.push_from in record { as_long = search rules; lent = search rules; gathering = of_takes _ _ c.loop-start.invariant.gathering c.loop-start-test.true _ _ _ _ _ p.ensures.count_after p.ensures.savings_pushed }

pub push_from-requires : goal.push_from-requires
push_from-requires c = let g = c.loop-start.invariant.gathering in let h = c.loop-start-test.true in record {
  routed = c.requires.routed;
  start_bound = c.requires.routed.row c.loop-start.start-index (omega arith);
  space = room_kept c.loop-start.invariant.as_long _ c.requires.space _ (few _ _ g h);
  members_bound = of_fits _ _ g h c.requires.routed.few;
}
