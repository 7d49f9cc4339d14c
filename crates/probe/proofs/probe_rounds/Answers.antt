-- `probe::probe_rounds` meets its contract. Assumes nothing.
use Rattle.sheet.specs.Fields.{rows_of}
use Rattle.probe.specs.Rounds.{probe_rounds}
use Rattle.probe.proofs.Right.{Lengths, asked_of, lengths_of, passed}
use Rattle.probe.proofs.probe_rounds.Goals as goal

pub returns-in_default : goal.returns-in_default
unfolding probe_rounds
returns-in_default c = rw (rw c.in_default.is at c.driver_of.ensures)

pub returns-then-not-rounds_right : goal.returns-then-not-rounds_right
unfolding probe_rounds
returns-then-not-rounds_right c = let d = c.in-Some.ensures in
    rw (d.asked, ← rw d.same at c.rounds_right.ensures, c.if-not-rounds_right.true)

pub passed-requires : goal.passed-requires
passed-requires c = let d = c.in-Some.ensures in
    let l : Lengths c.args.stops.now c.args.len (rows_of c.args.sheet.now) = lengths_of _ _ _ (passed (rw d.same at c.rounds_right.ensures) c.if-not-rounds_right.false) in record {
      rows_asked = rw (d.same, c.new.ensures) (asked_of _ _ _ d.right l.each);
      len_nonzero = (l.some, (l.few, l.short));
    }

pub returns : goal.returns
unfolding probe_rounds
returns c = let d = c.in-Some.ensures in
    rw (d.asked, ← rw d.same at c.rounds_right.ensures, c.if-not-rounds_right.false) (rw (d.same, c.new.ensures) at c.passed.ensures)
