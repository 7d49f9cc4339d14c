-- `constructive::terms::terms_with` meets its contract. Assumes nothing.
use mathlib.Core.Path.{sym, ◌∙◌}
use Rattle.constructive.specs.Laws.Terms.{unchecked_hard}
use Rattle.constructive.specs.Terms.{terms_of}
use Rattle.constructive.proofs.terms.terms_with.Goals as goal

pub soft_rules-soft-requires-clause-members_value : goal.soft_rules-soft-requires-clause-members_value
soft_rules-soft-requires-clause-members_value c = λ e. unchecked_hard _ _ _ _ (sym c.route_checks_needed-constrained.ensures ∙ e)

pub returns : goal.returns
unfolding terms_of
returns c = rw (c.route_checks_needed-constrained.ensures, c.soft_rules-soft.ensures, c.fixed_cost_in_distance-fixed.ensures, c.requires.limits_value, c.vehicle_at-own.ensures.value)
