use Rattle.std.proofs.Common.{◌≡◌, ℕ, ◌+◌, ◌*◌, ◌≤◌, List, length, sym, ap, ◌∙◌, length-take-le, arith}
use Rattle.sheet.specs.Fields.{rows_of, plan_length}
use Rattle.sheet.specs.Refusal.{refusal_of}
use Rattle.sheet.specs.Laws.Told.{told_some}
use Rattle.planner.specs.Answer.{plan_for}
use Rattle.listing_text.specs.Listing.{listing_refusal}
use Rattle.listing_text.specs.Laws.Listing.{not_early, early_stands, told_stands}
use Rattle.listing.specs.Laws.Answer.{answer_refused}
use Rattle.listing.specs.Answer.{listed_text}
use Rattle.listing.proofs.write_answer.Goals as goal

pub returns-in-Err : goal.returns-in-Err
unfolding listed_text
returns-in-Err c =
    let s = c.args.sheet.now in
    let early = c.in-Err.ensures in
    let some = told_some c.in-Err.refusal in
    rw (early_stands s (refusal_of s (plan_length s)) (λ e. some (early ∙ e)), ← early, answer_refused _ s (plan_for s) some, ← c.into.ensures)
    c.write_refused.ensures

-- a sheet that is not refused early
passed : (s : List ℕ) → 0 ≡ listing_refusal s 0 → (16 ≤ length s) × (rows_of s ≤ 48)
passed s none = not_early s (sym none)

pub plan_length-n-requires : goal.plan_length-n-requires
plan_length-n-requires c = (passed c.args.sheet.now c.in_default.ensures).0

pub slice_bounds-write_planned-end : goal.slice_bounds-write_planned-end
slice_bounds-write_planned-end c =
    let few = (passed c.args.sheet.now c.in_default.ensures).1 in omega (arith, few)

pub slice_bounds-write_planned-end-2 : goal.slice_bounds-write_planned-end-2
slice_bounds-write_planned-end-2 c =
    let few = (passed c.args.sheet.now c.in_default.ensures).1 in
    sym (length-take-le _ c.args.plan.now (omega (arith, few)))

pub write_planned-requires-clause-few_rows : goal.write_planned-requires-clause-few_rows
write_planned-requires-clause-few_rows c = (passed c.args.sheet.now c.in_default.ensures).1

pub returns : goal.returns
unfolding listed_text
returns c =
    let s = c.args.sheet.now in
    let few = (passed s c.in_default.ensures).1 in
    let lent = length-take-le c.plan_length-n.result c.args.plan.now (omega (arith, few, c.plan_length-n.ensures)) ∙ c.plan_length-n.ensures in
    rw (told_stands s (refusal_of s (plan_length s)) (sym c.in_default.ensures), ← lent)
    c.write_planned.ensures
