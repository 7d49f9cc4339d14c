-- `reason::last_tried` meets its contract. Assumes nothing.
use Rattle.std.proofs.Common.{◌≡◌, ◌+◌, arith, unwrap_or, cond}
use Rattle.sheet.specs.Depots.{depots_of}
use Rattle.reason.proofs.Trying.{Trying, begins, goes_on, ends}
use Rattle.reason.proofs.last_tried.Goals as goal
use Rattle.reason.proofs.last_tried.Goals.{then-is_later, else-is_later}

pub loop-d-init : goal.loop-d-init
loop-d-init c = record { bound = λ x e. cc; trying = begins _ _ }

pub loop-d-preserved : goal.loop-d-preserved
loop-d-preserved c = let s = c.args.sheet.now in
    let l = c.loop-d in
    let next : Trying s c.args.stop (cond c.is_later.result l.d (unwrap_or l.last (depots_of s))) (l.d + 1) = rw c.is_later.ensures (goes_on _ _ _ _ l.invariant.trying (omega arith)) in
    elim c.if-is_later.branch [
      | then-is_later w ↦ record {
        bound = λ x e. let q : l.d ≡ x = cc in omega arith;
        trying = rw w.last-is (rw w.if-is_later.true at next);
      }
      | else-is_later w ↦ record {
        bound = rw w.last-is l.invariant.bound;
        trying = rw w.last-is (rw w.if-is_later.false at next);
      }
    ]

pub returns-clause-value : goal.returns-clause-value
returns-clause-value c = ends _ _ _ _ c.loop-d.invariant.trying (omega arith)
