-- `fleet_limiter::drop_rounds` meets its contract. Assumes nothing.
use mathlib.Core.Path.{sym}
use Prim.Native.Nat.{◌<◌}
use native.Mathlib.Omega.{arith}
use Rattle.std.proofs.Common.{rules}
use Rattle.fleet_limiter.proofs.DroppingRounds.{ends_so, few, alone, goes_on}
use Rattle.fleet_limiter.proofs.drop_rounds.Goals as goal

pub drop_round-requires : goal.drop_round-requires
drop_round-requires c = let l = c.loop-n.invariant.dropping in
    let h = c.loop-n-test.true in
    let e = c.start_of-routed.ensures in
    let t = c.requires.triable in
    let some : 0 < c.loop-n.n = omega (arith, h) in
    record { tables = alone l h e; triable = record { windows = t.windows; some = t.some; few = omega (arith, few l h e, t.few) }; n_nonzero = (some, sym e) }

pub loop-n-preserved : goal.loop-n-preserved
loop-n-preserved c = record { as_long = search rules; dropping = goes_on c.loop-n.invariant.dropping c.loop-n-test.true c.start_of-routed.ensures c.drop_round.ensures.behind_kept c.drop_round.ensures.held; lent = search rules }

pub returns-clause-held : goal.returns-clause-held
returns-clause-held c = ends_so c.loop-n.invariant.dropping c.loop-n-test.false
