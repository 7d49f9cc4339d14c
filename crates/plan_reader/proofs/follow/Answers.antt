-- `plan_reader::follow` meets its contract. Assumes nothing.
use mathlib.Core.Path.{refl}
use native.Mathlib.Omega.{arith}
use Rattle.plan_reader.proofs.Following.{no_stop, no_room, goes_on, ends}
use Rattle.plan_reader.proofs.follow.Goals as goal

pub returns-then-link-depots : goal.returns-then-link-depots
returns-then-link-depots c = no_stop c.loop-link.invariant c.loop-link-test.true (λ p. omega (arith, p.0))

pub returns-then-rows-link : goal.returns-then-rows-link
returns-then-rows-link c = no_stop c.loop-link.invariant c.loop-link-test.true (λ p. omega (arith, p.1))

pub returns-then-rows-depots : goal.returns-then-rows-depots
returns-then-rows-depots c = λ t. no_room c.loop-link.invariant c.loop-link-test.true (omega arith) (omega arith)

pub loop-link-preserved : goal.loop-link-preserved
loop-link-preserved c = goes_on c.loop-link.invariant (omega arith) (omega arith) (omega arith) (omega arith) _ c.next-link.result c.loop-link-test.true refl c.next-link.ensures

pub returns : goal.returns
returns c = ends c.loop-link.invariant c.loop-link-test.false
