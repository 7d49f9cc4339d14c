-- `insertion::places::try_hard` meets its contract. Assumes nothing.
use mathlib.Core.Path.{sym, ap, ◌∙◌}
use Rattle.insertion.specs.Place.{feasible_in}
use Rattle.insertion.proofs.Trying.{slides, routed}
use Rattle.insertion.proofs.Judged.{hard_lost, hard_out, hard_won}
use Rattle.insertion.proofs.Trying.{front_alike, trial_grown}
use Rattle.insertion.proofs.places.try_hard.Goals as goal

pub returns-then-not-wins : goal.returns-then-not-wins
returns-then-not-wins b c = let a = c.args in record {
  choice_value = hard_lost a.sheet.now a.terms a.route.now a.row a.k c.requires.soft_value.0 a.walked.tried.choice a.j _ c.detour-cost.ensures (sym c.wins.ensures ∙ c.if-not-wins.true);
  trial_2 = c.requires.trial;
  knows_2 = (c.requires.knows, c.requires.soft_value.1.0);
}

pub feasible-requires : goal.feasible-requires
feasible-requires b c = let g = slides _ _ _ _ c.requires.trial _ _ c.requires.soft_value.1.1 c.slide.ensures in record {
  routed = routed _ _ _ _ c.requires.joinable _ _ g;
  knows = b.met.W.Walker.alike _ _ _ c.args.route.now _ _ c.towards-next.ensures.knows_2 (trial_grown _ _ _ _ g) (front_alike _ _ _ _ g _ c.towards-next.ensures.reach_2);
}

pub returns-then-not-feasible : goal.returns-then-not-feasible
returns-then-not-feasible b c = let a = c.args in let g = slides _ _ _ _ c.requires.trial _ _ c.requires.soft_value.1.1 c.slide.ensures in let n = c.towards-next.ensures in rw c.walked_to.ensures (record { choice_value = hard_out a.sheet.now a.terms a.route.now a.row a.k c.requires.soft_value.0 a.walked.tried.choice a.j _ c.detour-cost.ensures _ (c.feasible.ensures ∙ ap (feasible_in a.sheet.now a.terms) g.holds) (c.if-not-feasible.true); trial_2 = g; knows_2 = (n.knows_2, n.reach_2) })

pub returns : goal.returns
returns b c = let a = c.args in let g = slides _ _ _ _ c.requires.trial _ _ c.requires.soft_value.1.1 c.slide.ensures in let n = c.towards-next.ensures in rw c.walked_to-2.ensures (record { choice_value = hard_won a.sheet.now a.terms a.route.now a.row a.k c.requires.soft_value.0 a.walked.tried.choice a.j _ c.detour-cost.ensures _ (c.feasible.ensures ∙ ap (feasible_in a.sheet.now a.terms) g.holds) (sym c.wins.ensures ∙ c.if-not-wins.false) (c.if-not-feasible.false); trial_2 = g; knows_2 = (n.knows_2, n.reach_2) })
