-- `nearest_neighbor_choice::nn_tw::NearestNeighborTwRule::nearer` meets its contract. Assumes nothing.
use mathlib.Core.Path.{sym, ap, ◌∙◌}
use Rattle.nearest_neighbor_choice.specs.declared.nn_tw.Candidate.{Candidate}
use Rattle.nearest_neighbor_choice.specs.Partial.{candidate_of, takes_by, window_by}
use Rattle.nearest_neighbor_choice.specs.Heuristic.{offer_by}
use Rattle.nearest_neighbor_choice.proofs.Judging.{loses, stays_out, is_taken}
use Rattle.nearest_neighbor_choice.proofs.nn_tw.NearestNeighborTwRule.nearer.Goals.{else-wins-via-else-wins, else-wins-via-then-wins+else-takes}
use Rattle.nearest_neighbor_choice.proofs.nn_tw.NearestNeighborTwRule.nearer.Goals as goal

pub returns-then-takes : goal.returns-then-takes
unfolding offer_by window_by
returns-then-takes c = is_taken c.args.best c.args.j (takes_by c.args.sheet.now c.args.depot c.args.vehicle c.args.limits c.args.self.soft c.args.partial c.args.row (candidate_of c.args.sheet.now c.args.partial c.args.row)) (candidate_of c.args.sheet.now c.args.partial c.args.row).key c.candidate_at-seen.result.key (ap (λ (l : Candidate). l.key) c.candidate_at-seen.ensures) (sym c.wins.ensures ∙ c.if-wins.true) (ap (λ (l : Candidate). takes_by c.args.sheet.now c.args.depot c.args.vehicle c.args.limits c.args.self.soft c.args.partial c.args.row l) (sym c.candidate_at-seen.ensures) ∙ sym c.takes.ensures ∙ c.if-takes.true)

pub returns : goal.returns
unfolding offer_by window_by
returns c =
    elim c.else-wins.branch [
      | else-wins-via-else-wins w ↦ loses c.args.best c.args.j (takes_by c.args.sheet.now c.args.depot c.args.vehicle c.args.limits c.args.self.soft c.args.partial c.args.row (candidate_of c.args.sheet.now c.args.partial c.args.row)) (candidate_of c.args.sheet.now c.args.partial c.args.row).key c.candidate_at-seen.result.key (ap (λ (l : Candidate). l.key) c.candidate_at-seen.ensures) (sym c.wins.ensures ∙ w.if-wins.false)
      | else-wins-via-then-wins+else-takes w ↦ stays_out c.args.best c.args.j (takes_by c.args.sheet.now c.args.depot c.args.vehicle c.args.limits c.args.self.soft c.args.partial c.args.row (candidate_of c.args.sheet.now c.args.partial c.args.row)) (candidate_of c.args.sheet.now c.args.partial c.args.row).key (ap (λ (l : Candidate). takes_by c.args.sheet.now c.args.depot c.args.vehicle c.args.limits c.args.self.soft c.args.partial c.args.row l) (sym c.candidate_at-seen.ensures) ∙ sym w.takes.ensures ∙ w.if-takes.false)
    ]
