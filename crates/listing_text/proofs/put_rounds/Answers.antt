-- `listing_text::put_rounds` meets its contract. Assumes nothing.
use Prim.Native.Nat.{◌<◌}
use native.Mathlib.Omega.{arith}
use Rattle.plan.specs.Read.{rounds_at, aside_at, chain_of, read_plan}
use Rattle.listing_text.specs.Laws.Listable.{few_rounds, stops}
use Rattle.listing_text.proofs.Counting.{starts, done, chain_in, round_fits, goes_on}
use Rattle.listing_text.proofs.put_rounds.Goals as goal

pub u16_at-rounds-requires : goal.u16_at-rounds-requires
u16_at-rounds-requires c = omega (arith, c.requires.listable.long)

pub overflow_cast-rounds : goal.overflow_cast-rounds
overflow_cast-rounds c = omega arith

pub loop-k-init : goal.loop-k-init
unfolding rounds_at read_plan
loop-k-init c = let a = c.args in
    (c.u16_at-rounds.ensures, starts a.sheet.now a.plan.now (rounds_at a.plan.now) (chain_of a.sheet.now a.plan.now (aside_at a.plan.now)) a.text.now (stops a.sheet.now a.plan.now c.requires.listable) c.requires.text_room)

pub put_round-requires : goal.put_round-requires
put_round-requires c = let a = c.args in
    let l = c.loop-k in
    let h : l.k < rounds_at a.plan.now = omega (arith, l.invariant.0, c.loop-k-test.true) in
    record {
      listable = c.requires.listable;
      k_bound = omega (arith, h, few_rounds a.sheet.now a.plan.now c.requires.listable);
      stops = chain_in l.invariant.1 h;
      text_room = round_fits l.invariant.1 h;
    }

pub overflow_step-k : goal.overflow_step-k
overflow_step-k c = omega arith

pub loop-k-smaller : goal.loop-k-smaller
loop-k-smaller c = omega arith

pub loop-k-preserved : goal.loop-k-preserved
loop-k-preserved c = let a = c.args in
    let l = c.loop-k in
    let h : l.k < rounds_at a.plan.now = omega (arith, l.invariant.0, c.loop-k-test.true) in
    (l.invariant.0, goes_on l.invariant.1 h c.put_round.ensures)

pub returns : goal.returns
unfolding read_plan
returns c = let l = c.loop-k in
    done l.invariant.1 (omega (arith, l.invariant.0, c.loop-k-test.false))
