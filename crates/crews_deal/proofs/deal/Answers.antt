-- `crews_deal::deal` meets its contract. Assumes nothing.
use Rattle.std.proofs.Common.{sym, ◌∙◌, arith}
use Rattle.std.proofs.lemmas.Result.{err_from_is_err_and}
use Rattle.sheet.specs.Laws.Told.{number_positive}
use Rattle.crews_deal.proofs.Dealing.{deal_refused, deal_14, few, timed, cut_long, dealable, dealt_out}
use Rattle.crews_deal.proofs.deal.Goals as goal

pub returns-in_err-rounds : goal.returns-in_err-rounds
returns-in_err-rounds c = let a = c.args in
    let p = err_from_is_err_and c.from_residual.result c.from_residual.ensures.1 in
    let all = deal_refused a.sheet.now a.plan.now a.deal.now a.crews _ c.deal_room-room.ensures _ (number_positive _) c.in_err-rounds.ensures.told in
    rw (p.1, p.2) record { deal_answered = all.deal_answered; deal_shared = all.deal_shared; deal_even = all.deal_even; deal_bounded = all.deal_bounded }

pub returns-then-not-crews_right : goal.returns-then-not-crews_right
returns-then-not-crews_right c = let a = c.args in
    let all = deal_14 a.sheet.now a.plan.now a.deal.now a.crews _ c.deal_room-room.ensures _ c.in_ok-rounds.ensures.walked (sym c.crews_right.ensures ∙ c.if-not-crews_right.true) in
    record { deal_answered = all.deal_answered; deal_shared = all.deal_shared; deal_even = all.deal_even; deal_bounded = all.deal_bounded }

pub slice_bounds-wholes-end : goal.slice_bounds-wholes-end
slice_bounds-wholes-end c = let a = c.args in few a.sheet.now a.plan.now a.deal.now a.crews _ c.deal_room-room.ensures _ c.in_ok-rounds.ensures.walked

pub slice_bounds-wholes-end-2 : goal.slice_bounds-wholes-end-2
slice_bounds-wholes-end-2 c = let a = c.args in sym (cut_long a.sheet.now a.plan.now a.deal.now a.crews _ c.deal_room-room.ensures _ c.in_ok-rounds.ensures.walked _ (omega arith))

pub whole_durations-requires : goal.whole_durations-requires
whole_durations-requires c = let a = c.args in record {
  timed = timed a.sheet.now a.plan.now a.deal.now a.crews _ c.deal_room-room.ensures _ c.in_ok-rounds.ensures.walked;
  figures_len = cut_long a.sheet.now a.plan.now a.deal.now a.crews _ c.deal_room-room.ensures _ c.in_ok-rounds.ensures.walked _ (omega arith);
}

pub deal-requires : goal.deal-requires
deal-requires c = let a = c.args in dealable a.sheet.now a.plan.now a.deal.now a.crews _ c.deal_room-room.ensures _ c.in_ok-rounds.ensures.walked (sym c.crews_right.ensures ∙ c.if-not-crews_right.false) _ c.whole_durations.ensures

pub returns : goal.returns
returns c = let a = c.args in
    let all = dealt_out a.sheet.now a.plan.now a.deal.now a.crews _ c.deal_room-room.ensures _ c.in_ok-rounds.ensures.walked (sym c.crews_right.ensures ∙ c.if-not-crews_right.false) _ c.whole_durations.ensures _ c.deal.ensures in
    record { deal_answered = all.deal_answered; deal_shared = all.deal_shared; deal_even = all.deal_even; deal_bounded = all.deal_bounded }
