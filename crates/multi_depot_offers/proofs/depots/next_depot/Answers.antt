-- `multi_depot_offers::depots::next_depot` meets its contract. Assumes nothing.
use Rattle.std.proofs.Common.{◌≡◌, sym, ◌∙◌, ◌+◌, arith, unwrap_or}
use Rattle.sheet.specs.Depots.{depots_of}
use Rattle.multi_depot_offers.specs.ByDepot.{nearer}
use Rattle.multi_depot_offers.proofs.Asking.{Seeking, begins, taken, not_asked_lem, beaten, goes_on, ends}
use Rattle.multi_depot_offers.proofs.depots.next_depot.Goals as goal
use Rattle.multi_depot_offers.proofs.depots.next_depot.Goals.{then-wins+then-is_asked, else-wins, else-wins-via-then-wins+else-is_asked, else-wins-via-else-wins}

pub loop-d-init : goal.loop-d-init
loop-d-init c = record { bound = λ x e. cc; seeking = begins _ _ _ }

pub loop-d-preserved : goal.loop-d-preserved
loop-d-preserved c = let s = c.args.sheet.now in
    let l = c.loop-d in
    let after = unwrap_or c.args.after (depots_of s) in
    let best = unwrap_or l.best (depots_of s) in
    let next : Seeking s c.args.stop after (nearer s c.args.stop after best l.d) (l.d + 1) = goes_on _ _ _ _ _ l.invariant.seeking (omega arith) in
    elim c.if-wins.branch [
      | then-wins+then-is_asked w ↦ record {
        bound = λ x e. let q : l.d ≡ x = cc in omega arith;
        seeking = rw w.best-is (rw (taken _ _ (sym w.is_asked.ensures ∙ w.if-is_asked.true) (sym c.wins.ensures ∙ w.if-wins.true)) at next);
      }
      | else-wins w ↦ record {
        bound = rw w.best-is l.invariant.bound;
        seeking = rw w.best-is (elim w.else-wins.branch [
          | else-wins-via-then-wins+else-is_asked v ↦ rw (not_asked_lem _ _ _ (sym v.is_asked.ensures ∙ v.if-is_asked.false)) at next
          | else-wins-via-else-wins v ↦ rw (beaten _ _ _ (sym c.wins.ensures ∙ v.if-wins.false)) at next
        ]);
      }
    ]

pub returns-clause-value : goal.returns-clause-value
returns-clause-value c = ends _ _ _ _ _ c.loop-d.invariant.seeking (omega arith)
