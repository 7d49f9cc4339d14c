-- `clarke_wright_savings::Savings::push_from` meets its contract. Assumes nothing.
use mathlib.Core.Path.{refl}
use native.Mathlib.Omega.{arith}
use Rattle.clarke_wright_savings.specs.Savings.{savings_from}
use Rattle.clarke_wright_savings.proofs.Gathering.{none_yet, from_fits, from_skips, from_takes}
use Rattle.clarke_wright_savings.proofs.Savings.push_from.Goals as goal

pub loop-other-init : goal.loop-other-init
unfolding savings_from
loop-other-init c = none_yet _ refl _ _ _ _ _ _

pub loop-other-preserved-then-not-is_paired : goal.loop-other-preserved-then-not-is_paired
loop-other-preserved-then-not-is_paired c = from_skips _ _ _ c.loop-other.invariant c.loop-other-test.true (rw (← c.is_paired.ensures, c.if-not-is_paired.true))

pub loop-other-preserved-then-not-value : goal.loop-other-preserved-then-not-value
loop-other-preserved-then-not-value c = from_skips _ _ _ c.loop-other.invariant c.loop-other-test.true (rw (← c.is_paired.ensures, ← c.value_of-value.ensures, c.if-not-is_paired.false) (c.if-not-value.true))

pub loop-other-preserved : goal.loop-other-preserved
loop-other-preserved c = from_takes _ _ _ c.loop-other.invariant c.loop-other-test.true (rw (← c.is_paired.ensures, ← c.value_of-value.ensures, c.if-not-is_paired.false) (c.if-not-value.false)) _ _ _ _ _ refl (rw (← c.value_of-value.ensures) c.push.ensures)

pub push-requires : goal.push-requires
push-requires c = let n = from_fits _ _ _ c.loop-other.invariant c.loop-other-test.true in let p = c.requires.space in record {
  space = record { starts = omega (arith, n _ p.starts); ends = omega (arith, n _ p.ends); saved = omega (arith, n _ p.saved); placed = omega (arith, n _ p.placed) };
  at_bound = omega (arith, n 0xffff (omega (arith, c.requires.members_bound)));
}
