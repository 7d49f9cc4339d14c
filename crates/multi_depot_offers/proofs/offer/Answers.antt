-- `multi_depot_offers::offer` meets its contract. Assumes nothing.
use Rattle.std.proofs.Common.{◌≡◌, sym, ap, ◌∙◌, arith, Bool, get_or, ℕ, unwrap_or}
use Rattle.std.proofs.lemmas.List.{set-get_or}
use Rattle.lists.specs.Count.{is_in}
use Rattle.sheet.specs.Laws.Depots.{depots_few}
use Rattle.constructive.specs.Laws.Marks.{marked_aside}
use Rattle.multi_depot_offers.specs.ByDepot.{planned_at, moves_to}
use Rattle.multi_depot_offers.proofs.Moving.{begins, stays, moves, moved_to, any_moved}
use Rattle.multi_depot_offers.proofs.offer.Goals as goal
use Rattle.multi_depot_offers.proofs.offer.Goals.{in-Some, in_default}

pub loop-row-init : goal.loop-row-init
loop-row-init c = begins c.args.sheet.now c.args.at.now

pub overflow_cast-home : goal.overflow_cast-home
overflow_cast-home c = omega (arith, c.in-Some.ensures.another, depots_few c.args.sheet.now (omega (arith, c.requires.rows)), c.accepted.ensures.sized.rows)

pub loop-row-preserved : goal.loop-row-preserved
loop-row-preserved c = let a = c.args in
    let p = c.requires in
    let l = c.loop-row in
    let here : ℕ = get_or l.at l.row 0 in
    let goes_to : moves_to a.sheet.now (is_in l.row (planned_at a.sheet.now a.at.now).aside) l.row here ≡ unwrap_or c.moves_to.result here =
    ap (λ (b : Bool). moves_to a.sheet.now b l.row here) (sym (marked_aside a.sheet.now a.marks.now (planned_at a.sheet.now a.at.now).aside p.marks l.row (omega (arith, p.rows)))) ∙ sym c.moves_to.ensures.value in
    elim c.match-moves_to.branch [
      | in-Some w ↦
          let e : moves_to a.sheet.now (is_in l.row (planned_at a.sheet.now a.at.now).aside) l.row here ≡ w.in-Some.next = rw w.in-Some.is at goes_to in
          rw (w.at-is, w.any-is) (rw e at (moves _ _ _ _ _ l.invariant (omega (arith, l.invariant.long)) (λ q. w.in-Some.ensures.another.1 (sym e ∙ q))))
      | in_default w ↦ rw (w.at-is, set-get_or, w.any-is) (stays _ _ _ _ _ l.invariant (omega (arith, l.invariant.long)) (rw w.in_default.is at goes_to))
    ]

pub returns : goal.returns
returns c = let l = c.loop-row in record {
  value = any_moved _ _ _ _ _ l.invariant (omega arith);
  at_after = moved_to _ _ _ _ _ l.invariant (omega arith);
}
