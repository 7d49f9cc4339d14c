use Rattle.std.proofs.Common.{sym, ◌∙◌, refl}
use Rattle.sheet.specs.Laws.Told.{told_some}
use Rattle.sheet.specs.Laws.Accepted.{accepted}
use Rattle.plan_door.specs.Laws.Told.{taken_right}
use Rattle.planner.specs.Laws.Promised.{number_is, bytes_are}
use Rattle.listing.specs.Laws.Answer.{answer_listed, answer_refused}
use Rattle.listing.proofs.write_planned.Goals as goal

pub returns-in-Err : goal.returns-in-Err
returns-in-Err c =
    rw (← number_is _ _, ← c.in-Err.ensures.answered.number, answer_refused _ _ _ (told_some c.in-Err.refusal), ← c.into.ensures)
    c.write_refused.ensures

pub write_listing-requires-clause-listable : goal.write_listing-requires-clause-listable
write_listing-requires-clause-listable c =
    let told = c.in-Ok.ensures in
    let fine = accepted c.args.sheet.now _ (sym (told.answered.number ∙ number_is c.args.sheet.now _)) in
    record {
      sized = fine.0.sized;
      rows = c.requires.few_rows;
      long = c.plan_rounds.auto.plan ∙ fine.1;
      right = taken_right _ _ (told.once refl).right;
    }

pub returns-in-Ok : goal.returns-in-Ok
returns-in-Ok c =
    rw (← number_is _ _, ← c.in-Ok.ensures.answered.number, answer_listed, ← bytes_are _ _ _ _ c.in-Ok.ensures.answered refl)
    c.write_listing.ensures
