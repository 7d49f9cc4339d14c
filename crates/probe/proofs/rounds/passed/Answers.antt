-- `probe::rounds::passed` meets its contract. Assumes nothing.
use Rattle.probe.proofs.Counting.{from_one, count_on, counted}
use Rattle.probe.proofs.rounds.passed.Goals as goal

pub loop-round-preserved : goal.loop-round-preserved
loop-round-preserved c = let t = c.in-Some.ensures.steps in
    rw (c.from-count.ensures, from_one c.route_feasible.result) (count_on _ _ _ _ _ _ _ _ c.loop-round.invariant _ _ t.1.0 t.1.1 c.requires.len_nonzero.0 _ t.0 _ c.route_feasible.ensures)

pub returns : goal.returns
returns c = counted _ _ _ _ _ _ _ _ c.loop-round.invariant c.in-None.ensures.steps.1.0
