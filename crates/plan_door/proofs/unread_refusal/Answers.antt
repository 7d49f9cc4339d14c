-- `plan_door::unread_refusal` meets its contract. Assumes nothing.
use mathlib.Core.Path.{sym}
use Rattle.std.proofs.lemmas.Result.{err_from_is_err_and}
use Rattle.sheet.specs.Laws.Told.{number_positive}
use Rattle.plan_door.proofs.Opening.{form_unread, room_unread, contents_unread, any_unread, several_unread, one_unread}
use Rattle.plan_door.proofs.unread_refusal.Goals as goal
use Rattle.plan_door.proofs.unread_refusal.Goals.{else-one-via-then-one+else-depots-gt1, else-one-via-else-one}

pub returns-in_err-form : goal.returns-in_err-form
returns-in_err-form c = let p = err_from_is_err_and c.from_residual.result c.from_residual.ensures.1 in rw (p.1, p.2) (form_unread _ _ _ _ (number_positive _) c.in_err-form.ensures.form)

pub returns-then-not-room : goal.returns-then-not-room
returns-then-not-room c = room_unread _ _ _ _ (sym c.in_ok-form.ensures.form) c.if-not-room.true

pub returns-in_err-contents : goal.returns-in_err-contents
returns-in_err-contents c = let p = err_from_is_err_and c.from_residual-in_err-contents.result c.from_residual-in_err-contents.ensures.1 in rw (p.1, p.2) (contents_unread _ _ _ _ (sym c.in_ok-form.ensures.form) c.if-not-room.false (number_positive _) c.in_err-contents.ensures)

pub returns-then-depots-gt1 : goal.returns-then-depots-gt1
returns-then-depots-gt1 c = several_unread _ _ _ _ (sym c.in_ok-form.ensures.form) c.if-not-room.false (sym c.in_ok-contents.ensures) c.if-one.true (rw c.depots.ensures at c.if-depots-gt1.true)

pub returns : goal.returns
returns c =
    let formed = sym c.in_ok-form.ensures.form in
    let contained = sym c.in_ok-contents.ensures in
    elim c.else-one.branch [
      | else-one-via-then-one+else-depots-gt1 w ↦ one_unread _ _ _ _ formed c.if-not-room.false contained w.if-one.true (rw w.depots.ensures at w.if-depots-gt1.false)
      | else-one-via-else-one w ↦ any_unread _ _ _ _ formed c.if-not-room.false contained w.if-one.false
    ]
