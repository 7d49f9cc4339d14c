-- `fleet_cheapest::try_walks` meets its contract. Assumes nothing.
use mathlib.Core.Path.{◌∙◌}
use native.Mathlib.Omega.{arith}
use lib.Ieee.{of_bits}
use borrow.Author.Tests.{not-true}
use Rattle.insertion.proofs.Trying.{written}
use Rattle.fleet_cheapest.specs.Promises.{terms_at}
use Rattle.fleet_cheapest.proofs.Judged.{handed, prices_so, summed, over, barred, taken, free}
use Rattle.fleet_cheapest.proofs.try_walks.Goals.{then-terms+in-Some, else-terms}
use Rattle.fleet_cheapest.proofs.try_walks.Goals as goal

pub overflow_add-load_of : goal.overflow_add-load_of
overflow_add-load_of c = omega (arith, summed c.args.sheet.now c.args.windows c.args.index c.args.route.now c.args.row c.requires.windows_of c.requires.row_bound.1 c.requires.routed c.requires.row_bound.0 _ _ c.load_of.ensures c.demand.ensures c.requires.route_len_bound.0)

pub returns-then-terms-load_of : goal.returns-then-terms-load_of
returns-then-terms-load_of c = over c.args.sheet.now c.args.windows c.args.index c.args.route.now c.args.row c.requires.windows_of c.requires.row_bound.1 c.requires.routed c.requires.row_bound.0 _ c.terms_at-terms.ensures _ _ c.load_of.ensures c.demand.ensures _ _ c.if-terms-load_of.true

pub try_free-requires-clause-joinable : goal.try_free-requires-clause-joinable
try_free-requires-clause-joinable c = handed c.args.sheet.now c.args.windows c.args.index c.args.route.now c.args.row c.requires.windows_of c.requires.row_bound.1 c.requires.routed c.requires.row_bound.0 _ c.terms_at-terms.ensures c.requires.route_len_bound.0

pub returns-then-not-terms : goal.returns-then-not-terms
returns-then-not-terms c = free c.args.sheet.now c.args.windows c.args.index c.args.route.now c.args.row c.requires.windows_of c.requires.row_bound.1 c.requires.routed c.requires.row_bound.0 _ c.terms_at-terms.ensures _ _ c.load_of.ensures c.demand.ensures _ _ c.if-terms-load_of.false c.requires.route_len_bound.0 ((handed c.args.sheet.now c.args.windows c.args.index c.args.route.now c.args.row c.requires.windows_of c.requires.row_bound.1 c.requires.routed c.requires.row_bound.0 _ c.terms_at-terms.ensures c.requires.route_len_bound.0).unwalked.hard (not-true _ c.if-not-terms.true)) _ c.try_free.ensures

pub route_eval-requires : goal.route_eval-requires
unfolding terms_at
route_eval-requires c = rw c.terms_at-terms.ensures c.requires.routed

pub returns-in_default : goal.returns-in_default
returns-in_default c = barred c.args.sheet.now c.args.windows c.args.index c.args.route.now c.args.row c.requires.windows_of c.requires.row_bound.1 c.requires.routed c.requires.row_bound.0 _ c.terms_at-terms.ensures _ _ c.load_of.ensures c.demand.ensures _ _ c.if-terms-load_of.false c.if-terms.true _ c.route_eval.ensures c.in_default.is

pub try_places-done-requires-clause-joinable : goal.try_places-done-requires-clause-joinable
try_places-done-requires-clause-joinable c = handed c.args.sheet.now c.args.windows c.args.index c.args.route.now c.args.row c.requires.windows_of c.requires.row_bound.1 c.requires.routed c.requires.row_bound.0 _ c.terms_at-terms.ensures c.requires.route_len_bound.0

pub try_places-done-requires-clause-trial : goal.try_places-done-requires-clause-trial
try_places-done-requires-clause-trial c = written _ _ _ _ c.lay_out.ensures _

pub try_places-done-requires-clause-prices_value : goal.try_places-done-requires-clause-prices_value
unfolding of_bits
try_places-done-requires-clause-prices_value c = elim c.if-terms.branch [
  | then-terms+in-Some w ↦ w.prices-is ∙ prices_so c.args.sheet.now c.args.windows c.args.index c.args.route.now c.args.row c.requires.windows_of c.requires.row_bound.1 c.requires.routed c.requires.row_bound.0 _ c.terms_at-terms.ensures w.if-terms.true _ w.route_eval.ensures _ w.in-Some.is _ w.priced_distance-round.ensures
  | else-terms w ↦ rw (w.prices-is, w.if-terms.false)
]

pub returns : goal.returns
returns c = elim c.if-terms.branch [
  | then-terms+in-Some w ↦ taken c.args.sheet.now c.args.windows c.args.index c.args.route.now c.args.row c.requires.windows_of c.requires.row_bound.1 c.requires.routed c.requires.row_bound.0 _ c.terms_at-terms.ensures _ _ c.load_of.ensures c.demand.ensures _ _ c.if-terms-load_of.false w.if-terms.true _ w.route_eval.ensures _ w.in-Some.is c.requires.route_len_bound.0 _ c.try_places-done.ensures.choice_value
  | else-terms w ↦ free c.args.sheet.now c.args.windows c.args.index c.args.route.now c.args.row c.requires.windows_of c.requires.row_bound.1 c.requires.routed c.requires.row_bound.0 _ c.terms_at-terms.ensures _ _ c.load_of.ensures c.demand.ensures _ _ c.if-terms-load_of.false c.requires.route_len_bound.0 w.if-terms.false _ c.try_places-done.ensures.choice_value
]
