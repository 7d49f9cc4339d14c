-- `evaluation::schedule::schedule` meets its contract. Assumes nothing.
use mathlib.Core.Path.{sym, ◌∙◌}
use Rattle.evaluation.proofs.Onward.{goes_on, stops, ends, gone, home, at_home}
use Rattle.evaluation.proofs.schedule.schedule.Goals as goal

pub returns-then-not-alive : goal.returns-then-not-alive
returns-then-not-alive c = let a = c.args in
    gone a.sheet.now a.route.now a.depot a.rest _ c.new-clock.ensures a.home
    (stops _ _ _ _ _ _ _ c.loop-stop.invariant _ c.loop-stop-test.true c.next-clock.ensures (sym c.alive.ensures ∙ c.if-not-alive.true))

pub loop-stop-preserved : goal.loop-stop-preserved
loop-stop-preserved c = rw c.distance-distance.ensures (goes_on _ _ _ _ _ _ _ c.loop-stop.invariant _ c.loop-stop-test.true c.next-clock.ensures)

pub returns-then-not-home : goal.returns-then-not-home
returns-then-not-home c = let a = c.args in
    rw (c.if-not-home.true, c.finish-found.ensures, c.distance-distance-2.ensures)
    (home a.sheet.now a.route.now a.depot a.rest _ c.new-clock.ensures _ _ (ends _ _ _ _ _ _ _ c.loop-stop.invariant c.loop-stop-test.false))

pub returns : goal.returns
returns c = let a = c.args in
    rw (c.if-not-home.false, c.finish.ensures, c.finish-found.ensures, c.distance-distance-2.ensures)
    (at_home a.sheet.now a.route.now a.depot a.rest _ c.new-clock.ensures _ _ (ends _ _ _ _ _ _ _ c.loop-stop.invariant c.loop-stop-test.false))
