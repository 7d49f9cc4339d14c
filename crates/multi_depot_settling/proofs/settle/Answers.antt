-- `multi_depot_settling::settle` meets its contract. Assumes nothing.
use mathlib.Core.Path.{refl, sym, ◌∙◌}
use mathlib.Core.Bool.{true≢false}
use Rattle.multi_depot_settling.proofs.Settling.{begins, falls, goes_on, stays, ends}
use Rattle.std.proofs.Common.{rules}
use Rattle.multi_depot_settling.proofs.settle.Goals as goal

pub offers-init : goal.offers-init
offers-init c = let p = c.requires.at_value in
    record { as_long = search rules; lent = search rules; settling = begins _ _ p.0; marks = p.1; untouched = λ e. record { stayed = refl; marked = refl; stopped = refl; ended = refl; driven = refl } }

pub offers-smaller : goal.offers-smaller
offers-smaller c = let o = c.offer.ensures in
    rw o.at_after (falls _ _ c.requires.planning_tables.sheet c.offers.invariant.settling (sym o.value ∙ c.if-not-offer.false))

pub offers-preserved : goal.offers-preserved
offers-preserved c = let i = c.offers.invariant in
    let o = c.offer.ensures in
    let w = c.update_changed.ensures in
    record {
      as_long = search rules;
      lent = search rules;
      settling = rw o.at_after (goes_on _ _ c.requires.planning_tables.sheet i.settling (sym o.value ∙ c.if-not-offer.false));
      marks = w.marks_after;
      untouched = λ e. absurd (true≢false e);
    }

-- once no stop has moved
pub returns-clause-at_after : goal.returns-clause-at_after
returns-clause-at_after c = let o = c.offer.ensures in
    let a = c.requires.planning_tables.sheet in
    let i = c.offers.invariant.settling in
    let unmoving = sym o.value ∙ c.if-not-offer.true in
    o.at_after ∙ stays _ _ a i unmoving ∙ sym (ends _ _ a i unmoving)

pub returns-clause-untouched : goal.returns-clause-untouched
returns-clause-untouched c = let o = c.offer.ensures in
    let i = c.offers.invariant in
    rw (o.at_after ∙ stays _ _ c.requires.planning_tables.sheet i.settling (sym o.value ∙ c.if-not-offer.true)) i.untouched
