-- `planner_limiting::limit` meets its contract. Assumes nothing.
use Rattle.std.proofs.lemmas.Result.{err_from_is_err_and}
use Rattle.sheet.specs.Laws.Told.{number_positive}
use Rattle.planner_limiting.proofs.PlanOut.{limit_refused, limit_may, limit_fits, limit_planned, limit_done}
use Rattle.planner_limiting.proofs.limit.Goals as goal

pub returns-in_err-rounds : goal.returns-in_err-rounds
returns-in_err-rounds c = let p = err_from_is_err_and c.from_residual.result c.from_residual.ensures.1 in rw (p.1, p.2) (limit_refused _ _ _ _ _ (number_positive _) c.in_err-rounds.ensures.entry_as)

pub limit_read-requires : goal.limit_read-requires
limit_read-requires c =
    let in_ok = c.in_ok-rounds.ensures.entry_as in
    let out = c.args.plan_out.now in
    rw c.new-sheet.ensures record {
      limitable = limit_may _ _ out in_ok;
      outcome = in_ok.read.outcome;
      plan_in_len = limit_planned _ _ out in_ok;
      plan_out_len = limit_fits _ _ out in_ok;
    }

pub returns : goal.returns
returns c = limit_done _ _ _ c.in_ok-rounds.ensures.entry_as _ _ (rw c.new-sheet.ensures at c.limit_read.ensures.plan_out_after)
