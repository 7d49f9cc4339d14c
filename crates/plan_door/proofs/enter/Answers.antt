-- `plan_door::enter` meets its contract. Assumes nothing.
use Rattle.std.proofs.Common.{sym, ◌∙◌}
use Rattle.std.proofs.lemmas.Result.{err_from_is_err_and}
use Rattle.sheet.specs.Laws.Told.{number_positive}
use Rattle.plan_door.proofs.Opening.{fine, door_refused, door_reads, door_wrong, door_unreasoned, door_right}
use Rattle.plan_door.proofs.enter.Goals as goal

pub returns-in_err-unread_refusal-clause-entry_as : goal.returns-in_err-unread_refusal-clause-entry_as
returns-in_err-unread_refusal-clause-entry_as c = let p = err_from_is_err_and c.from_residual.result c.from_residual.ensures.1 in rw (p.1, p.2) (door_refused _ _ _ _ (number_positive _) c.in_err-unread_refusal.ensures)

pub new-sheet-requires : goal.new-sheet-requires
new-sheet-requires c = (fine _ _ _ _ c.in_ok-unread_refusal.ensures).0

pub read_plan-requires : goal.read_plan-requires
read_plan-requires c = rw c.new-sheet.ensures (door_reads _ _ _ _ c.in_ok-unread_refusal.ensures _ _ _ c.requires)

pub returns-in_default-clause-entry_as : goal.returns-in_default-clause-entry_as
returns-in_default-clause-entry_as c = door_wrong _ _ _ _ c.in_ok-unread_refusal.ensures (rw c.new-sheet.ensures at c.in_default.ensures.read_as)

pub reasons_taken-requires : goal.reasons_taken-requires
reasons_taken-requires c = record { read_right = rw (c.as_ref.ensures.stops, c.as_ref.ensures.ends, c.as_ref.ensures.vehicles) c.in-Some.ensures.read_as; plan_len = rw c.new-sheet.ensures (fine _ _ _ _ c.in_ok-unread_refusal.ensures).1 }

pub returns-then-not-reasons_taken-clause-entry_as : goal.returns-then-not-reasons_taken-clause-entry_as
returns-then-not-reasons_taken-clause-entry_as c = door_unreasoned _ _ _ _ c.in_ok-unread_refusal.ensures (rw c.new-sheet.ensures at c.in-Some.ensures.read_as) (rw c.new-sheet.ensures at (sym c.reasons_taken.ensures ∙ c.if-not-reasons_taken.true))

pub returns-clause-entry_as : goal.returns-clause-entry_as
returns-clause-entry_as c = door_right _ _ _ _ c.in_ok-unread_refusal.ensures (rw c.new-sheet.ensures at c.in-Some.ensures.read_as) (rw c.new-sheet.ensures at (sym c.reasons_taken.ensures ∙ c.if-not-reasons_taken.false))
