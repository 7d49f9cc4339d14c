-- `insertion::places::try_place` meets its contract. Assumes nothing.
use mathlib.Core.Path.{sym, ap, ◌∙◌}
use Rattle.insertion.specs.Place.{better_place}
use Rattle.insertion.proofs.Trying.{slides, routed}
use Rattle.insertion.proofs.Judged.{soft_told}
use Rattle.insertion.proofs.Trying.{front_alike, trial_grown}
use Rattle.insertion.proofs.places.try_place.Goals as goal

pub weigh-choice-requires : goal.weigh-choice-requires
weigh-choice-requires b c = let g = slides _ _ _ _ c.requires.trial _ _ c.requires.prices_value.1.1 c.slide.ensures in record {
  routed = routed _ _ _ _ c.requires.joinable _ _ g;
  knows = b.met.W.Walker.alike _ _ _ c.args.route.now _ _ c.towards-next.ensures.knows_2 (trial_grown _ _ _ _ g) (front_alike _ _ _ _ g _ c.towards-next.ensures.reach_2);
}

pub returns : goal.returns
returns b c = let a = c.args in let g = slides _ _ _ _ c.requires.trial _ _ c.requires.prices_value.1.1 c.slide.ensures in let n = c.towards-next.ensures in rw c.walked_to.ensures (record { choice_value = c.weigh-choice.ensures ∙ ap (better_place a.walked.tried.choice a.j a.k) (soft_told _ _ a.route.now a.row a.k _ _ (sym c.in-Some.is ∙ c.requires.prices_value.0) g.holds); trial_2 = g; knows_2 = (n.knows_2, n.reach_2) })
