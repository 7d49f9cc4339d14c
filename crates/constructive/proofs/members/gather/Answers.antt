-- `constructive::members::gather` meets its contract. Assumes nothing.
use Rattle.std.proofs.Common.{sym, ◌<◌, length, arith, true, false}
use Rattle.constructive.proofs.Gathering.{begins, passes, within, keeps}
use Rattle.constructive.proofs.members.gather.Given.{Over}
use Rattle.constructive.proofs.members.gather.Goals as goal
use Rattle.constructive.proofs.members.gather.Goals.{Then-keeps, then-keeps, else-keeps}

pub loop-number-init : goal.loop-number-init
loop-number-init g c = begins _ _ _ _ _ c.requires.1.1.1.1

kept_here : (g : Over) (c : Then-keeps g) → c.loop-number.end < length c.loop-number.table
kept_here g c = let l = c.loop-number in within _ _ _ _ _ _ _ _ l.invariant (omega arith) (sym (c.requires.1.1.1.0 l.number true c.if-keeps.ensures))

pub offset_bounds-table-end : goal.offset_bounds-table-end
offset_bounds-table-end g c = omega (arith, kept_here g c)

pub bounds-table-end : goal.bounds-table-end
bounds-table-end g c = kept_here g c

pub overflow_add-end : goal.overflow_add-end
overflow_add-end g c = omega (arith, kept_here g c)

pub loop-number-preserved : goal.loop-number-preserved
loop-number-preserved g c = let l = c.loop-number in
    elim c.if-keeps.branch [
      | then-keeps w ↦ rw (w.table-is, w.end-is) (keeps _ _ _ _ _ _ _ _ l.invariant (omega arith) (sym (c.requires.1.1.1.0 l.number true w.if-keeps.ensures)))
      | else-keeps w ↦ rw (w.table-is, w.end-is) (passes _ _ _ _ _ _ _ _ l.invariant (omega arith) (sym (c.requires.1.1.1.0 l.number false w.if-keeps.ensures)))
    ]
